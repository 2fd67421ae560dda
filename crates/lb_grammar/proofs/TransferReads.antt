-- The machine of a transaction reads the transactions, and those that were given up.
use Rattle.std.proofs.Common.{◌≡◌, ℕ, zero, suc, ◌+◌, ◌/◌, ◌%◌, ◌^◌, ◌<◌, Bool, true, false, IsTrue, nat_lt, inl, inr, Option, Some, None, List, [], ◌∷◌, ◌++◌, length, take, drop, slice_index, refl, sym, ap, ◌∙◌, subst, arith, if◌then◌else◌}
use Rattle.std.proofs.lemmas.Bool.Decides.{nat_tests}
use Rattle.lb_word.specs.Bytes.{bytes_of_word}
use Rattle.lb_trace.specs.declared.Event.{Event}
use Rattle.lb_trace.specs.declared.Event.TheVariants.{St}
use Rattle.lb_grammar.specs.declared.progress.Progress.{Progress}
use Rattle.lb_grammar.specs.declared.progress.Progress.TheVariants.{Within, Done, Off}
use Rattle.lb_grammar.specs.declared.exchange.Exchange.{Exchange}
use Rattle.lb_grammar.specs.declared.exchange.Exchange.TheVariants.{Room}
use Rattle.lb_grammar.specs.declared.transfer.Transfer.{Transfer}
use Rattle.lb_grammar.specs.declared.transfer.Transfer.TheVariants.{Opening, Sending, Closing}
use Rattle.lb_grammar.specs.Forms.{Form, One, Sequence, Lists}
use Rattle.lb_grammar.specs.Grammar.{csmode, is_byte, is_word, xchg, no_xchg, free_xchg, free_xchgs, answers, broken_off, read_head, read_bytes, write_bytes, rd, no_rd, wr, no_wr}
use Rattle.lb_grammar.specs.InternalMachine.{inside, Reads, Nowhere}
use Rattle.lb_grammar.specs.InternalExchanging.{exchange_step}
use Rattle.lb_grammar.specs.InternalTransferring.{pushed, next_byte, after_answer, transfer_step}
use Rattle.lb_grammar.proofs.Same.{Same, Or, Some as ForSome, same, back, chain, or_same, bracket, some_same, some_or, or_nothing}
use Rattle.lb_grammar.proofs.Followed.{Followed, onward, followed_same, followed_or, followed_some, some_out}
use Rattle.lb_grammar.proofs.Reading.{store_same, inside_same}
use Rattle.lb_grammar.proofs.ExchangeReads.{exchange_same}
use Rattle.lb_grammar.proofs.WordLemmas.{below_256, byte_test, below_word, word_test, pushed_below, four_answers, four_below, word_again}
use Rattle.lb_grammar.proofs.PlaceLemmas.{IsNext, is_next, none_next}

-- ---- a list of exchanges is broken off at its first byte or later

fewer : (j n : ℕ) → IsTrue (nat_lt (suc j) (suc n)) → IsTrue (nat_lt j n)
fewer j n h = grind (arith, nat_tests)

one_more : (j n : ℕ) → IsTrue (nat_lt j n) → IsTrue (nat_lt (suc j) (suc n))
one_more j n h = grind (arith, nat_tests)

some_left : (n : ℕ) → IsTrue (nat_lt 0 (suc n))
some_left n = grind (arith, nat_tests)

none_left : (j : ℕ) → IsTrue (nat_lt j 0) → ⊥
none_left j h = grind (arith, nat_tests)

abbrev BrokenFrom : ℕ → List ℕ → Lists → Lists
BrokenFrom b bytes k = Or (Followed (free_xchg b) (Followed (broken_off bytes) k)) (Followed (no_xchg b) k)

broken_more : (b : ℕ) (bytes : List ℕ) (k : Lists) → Same (Followed (broken_off (b ∷ bytes)) k) (BrokenFrom b bytes k)
broken_more b bytes k = record { to = λ l h. by_place l h.0 h.1 h.2; from = from }
  where
    by_place : (l : List Event) (j : ℕ) → IsTrue (nat_lt j (length (b ∷ bytes))) → Followed (free_xchgs (take j (b ∷ bytes))) (Followed (no_xchg (slice_index (b ∷ bytes) j)) k) l → BrokenFrom b bytes k l
    by_place l zero t h = inr h
    by_place l (suc j) t h = inl (onward (free_xchg b) (λ m s. (j, fewer j (length bytes) t, s)) l h)

    from : (l : List Event) → BrokenFrom b bytes k l → Followed (broken_off (b ∷ bytes)) k l
    from l (inl h) =
        let g : ForSome (λ j. nat_lt j (length bytes)) (λ j. Followed (free_xchg b) (Followed (free_xchgs (take j bytes)) (Followed (no_xchg (slice_index bytes j)) k))) l =
        some_out (free_xchg b) (λ j. nat_lt j (length bytes)) (λ j. Followed (free_xchgs (take j bytes)) (Followed (no_xchg (slice_index bytes j)) k)) l h in
        (suc g.0, one_more g.0 (length bytes) g.1, g.2)
    from l (inr h) = (zero, some_left (length bytes), h)

-- ---- the machine's lists, by what is left to be sent

abbrev close : Form
close = One (St csmode 0)

module _ (next : Option ℕ → Lists) where
  abbrev pub GivenUp : Lists
  GivenUp = Followed close (next None)

  abbrev pub Sends : List ℕ → ℕ → Lists
  Sends [] word = Followed close (next (Some word))
  Sends (b ∷ bytes) word = Or (ForSome is_byte (λ r. Followed (xchg b r) (Sends bytes (pushed word r)))) (Followed (no_xchg b) GivenUp)

  module _ (bytes : List ℕ) where
    abbrev pub R : Progress Transfer (Option ℕ) → Lists
    R = Reads (transfer_step bytes) Nowhere next

    pub closing : (x : Option ℕ) → Same (R (Within (Closing x))) (Followed close (next x))
    closing x = store_same (transfer_step bytes) Nowhere next (Closing x) csmode 0 (Done x) (λ h. h) (λ d v. refl) (λ d v. refl)

    opening : Same (R (Within Opening)) (Followed (One (St csmode 2)) (R (Within (next_byte bytes 0 0))))
    opening = store_same (transfer_step bytes) Nowhere next Opening csmode 2 (Within (next_byte bytes 0 0)) (λ h. h) (λ d v. refl) (λ d v. refl)

    -- at a place within the list
    module _ (b place word : ℕ) (t : nat_lt place (length bytes) ≡ true) (byte : slice_index bytes place ≡ b) where
      pub steps : (s : Exchange) (e : Event) → transfer_step bytes (Sending place word s) e ≡ inside (Sending place word) (after_answer bytes place word) (exchange_step b s e)
      steps s e =
          ap (λ (q : Bool). if q then inside (Sending place word) (after_answer bytes place word) (exchange_step (slice_index bytes place) s e) else Off) t
          ∙ ap (λ (q : ℕ). inside (Sending place word) (after_answer bytes place word) (exchange_step q s e)) byte

      one_byte_more : Same (R (Within (Sending place word (Room 999)))) (Or (ForSome is_byte (λ r. Followed (xchg b r) (R (Within (next_byte bytes (place + 1) (pushed word r)))))) (Followed (no_xchg b) (R (Within (Closing None)))))
      one_byte_more =
          chain (inside_same (exchange_step b) (transfer_step bytes) (Sending place word) (after_answer bytes place word) Nowhere next steps (λ s h. h) (Within (Room 999)))
          (exchange_same b (λ x. R (after_answer bytes place word x)))

    next_is : (place word : ℕ) (t : Bool) → nat_lt place (length bytes) ≡ t → R (Within (next_byte bytes place word)) ≡ R (Within (if t then Sending place word (Room 999) else Closing (Some word)))
    next_is place word t h = ap (λ (q : Bool). R (Within (if q then Sending place word (Room 999) else Closing (Some word)))) h

    same_kind : {j k : Lists} → j ≡ k → Same j k
    same_kind {j} e = subst (Same j) e same

    pub sends_same : (left : List ℕ) (place word : ℕ) → drop place bytes ≡ left → Same (R (Within (next_byte bytes place word))) (Sends left word)
    sends_same [] place word h = chain (same_kind (next_is place word false (none_next bytes place h))) (closing (Some word))
    sends_same (b ∷ left) place word h =
        let g : IsNext bytes place b left = is_next bytes place b left h in
        let place_is : suc place ≡ place + 1 = omega arith in
        let rest : drop (place + 1) bytes ≡ left = subst (λ q. drop q bytes ≡ left) place_is g.after in
        chain (same_kind (next_is place word true g.within))
        (chain (one_byte_more b place word g.within g.byte)
        (or_same (some_same (λ r t. followed_same (xchg b r) (sends_same left (place + 1) (pushed word r) rest))) (followed_same (no_xchg b) (closing None))))

    pub transfer_same : Same (R (Within Opening)) (Followed (One (St csmode 2)) (Sends bytes 0))
    transfer_same = chain opening (followed_same (One (St csmode 2)) (sends_same bytes 0 0 refl))

  -- ---- the machine's lists in the grammar's words

  -- all answers came and lead on to these lists, or the rest was broken off
  abbrev Ends : List ℕ → Lists → Lists
  Ends bytes v = Or v (Followed (broken_off bytes) GivenUp)

  -- one byte more in front
  one_byte : (b : ℕ) (bytes : List ℕ) (v : ℕ → Lists) → ((w : ℕ) → w < 2 ^ 32 → Same (Sends bytes w) (Ends bytes (v w)))
      → (w : ℕ) → w < 2 ^ 32 → Same (Sends (b ∷ bytes) w) (Ends (b ∷ bytes) (ForSome is_byte (λ r. Followed (xchg b r) (v (pushed w r)))))
  one_byte b bytes v g w h =
      chain
      (or_same
      (chain (some_same (λ r t. chain (followed_same (xchg b r) (g (pushed w r) (pushed_below w r h (below_256 r t)))) (followed_or (xchg b r) (v (pushed w r)) (Followed (broken_off bytes) GivenUp))))
      (some_or is_byte (λ r. Followed (xchg b r) (v (pushed w r))) (λ r. Followed (xchg b r) (Followed (broken_off bytes) GivenUp))))
      same)
      (chain bracket (or_same same (back (broken_more b bytes GivenUp))))

  -- bytes in front whose answers are free
  free_bytes : (front bytes : List ℕ) (v : Lists) → ((w : ℕ) → w < 2 ^ 32 → Same (Sends bytes w) (Ends bytes v)) → (w : ℕ) → w < 2 ^ 32 → Same (Sends (front ++ bytes) w) (Ends (front ++ bytes) (Followed (free_xchgs front) v))
  free_bytes [] bytes v g w h = g w h
  free_bytes (b ∷ front) bytes v g w h = one_byte b (front ++ bytes) (λ u. Followed (free_xchgs front) v) (free_bytes front bytes v g) w h

  nothing_broken : (l : List Event) → Followed (broken_off []) GivenUp l → ⊥
  nothing_broken l h = none_left h.0 h.1

  small : 0 < 2 ^ 32
  small = omega arith

  -- ---- writes: what comes back doesn't matter

  module _ (a v : ℕ) (after : Lists) (free : (w : ℕ) → next (Some w) ≡ after) where
    all_sent : (w : ℕ) → w < 2 ^ 32 → Same (Sends [] w) (Ends [] (Followed close after))
    all_sent w h = subst (λ k. Same (Sends [] w) (Ends [] (Followed close k))) (free w) (or_nothing (Sends [] w) nothing_broken)

    pub write_same : Same (Reads (transfer_step (write_bytes a v)) Nowhere next (Within Opening)) (Or (Followed (wr a v) after) (Followed (no_wr a v) (next None)))
    write_same =
        chain (transfer_same (write_bytes a v))
        (chain (followed_same (One (St csmode 2)) (free_bytes (write_bytes a v) [] (Followed close after) all_sent 0 small))
        (followed_or (One (St csmode 2)) (Followed (free_xchgs (write_bytes a v)) (Followed close after)) (Followed (broken_off (write_bytes a v)) GivenUp)))

  -- ---- reads: the last four answers are the value

  -- the next so many answers, and what the word leads on to
  abbrev Got : ℕ → ℕ → Lists
  Got zero w = Followed close (next (Some w))
  Got (suc n) w = ForSome is_byte (λ r. Followed (xchg 0 r) (Got n (pushed w r)))

  got0 : (w : ℕ) → w < 2 ^ 32 → Same (Sends [] w) (Ends [] (Got 0 w))
  got0 w h = or_nothing (Sends [] w) nothing_broken

  got1 : (w : ℕ) → w < 2 ^ 32 → Same (Sends (0 ∷ []) w) (Ends (0 ∷ []) (Got 1 w))
  got1 = one_byte 0 [] (Got 0) got0

  got2 : (w : ℕ) → w < 2 ^ 32 → Same (Sends (0 ∷ 0 ∷ []) w) (Ends (0 ∷ 0 ∷ []) (Got 2 w))
  got2 = one_byte 0 (0 ∷ []) (Got 1) got1

  got3 : (w : ℕ) → w < 2 ^ 32 → Same (Sends (0 ∷ 0 ∷ 0 ∷ []) w) (Ends (0 ∷ 0 ∷ 0 ∷ []) (Got 3 w))
  got3 = one_byte 0 (0 ∷ 0 ∷ []) (Got 2) got2

  got4 : (w : ℕ) → w < 2 ^ 32 → Same (Sends (0 ∷ 0 ∷ 0 ∷ 0 ∷ []) w) (Ends (0 ∷ 0 ∷ 0 ∷ 0 ∷ []) (Got 4 w))
  got4 = one_byte 0 (0 ∷ 0 ∷ 0 ∷ []) (Got 3) got3

  -- a word's answers, and what the word leads on to
  abbrev Valued : Lists
  Valued = ForSome is_word (λ v. Followed (answers (bytes_of_word v)) (Followed close (next (Some v))))

  got_to : (w : ℕ) → w < 2 ^ 32 → (l : List Event) → Got 4 w l → Valued l
  got_to w h l g1 =
      let a : ℕ = g1.0 in
      let g2 : ForSome is_byte (λ b. Followed (xchg 0 a) (Followed (xchg 0 b) (Got 2 (pushed (pushed w a) b)))) l =
      some_out (xchg 0 a) is_byte (λ b. Followed (xchg 0 b) (Got 2 (pushed (pushed w a) b))) l g1.2 in
      let b : ℕ = g2.0 in
      let w2 : ℕ = pushed (pushed w a) b in
      let g3 : ForSome is_byte (λ c. Followed (Sequence (xchg 0 a) (xchg 0 b)) (Followed (xchg 0 c) (Got 1 (pushed w2 c)))) l =
      some_out (Sequence (xchg 0 a) (xchg 0 b)) is_byte (λ c. Followed (xchg 0 c) (Got 1 (pushed w2 c))) l g2.2 in
      let c : ℕ = g3.0 in
      let w3 : ℕ = pushed w2 c in
      let g4 : ForSome is_byte (λ d. Followed (Sequence (Sequence (xchg 0 a) (xchg 0 b)) (xchg 0 c)) (Followed (xchg 0 d) (Got 0 (pushed w3 d)))) l =
      some_out (Sequence (Sequence (xchg 0 a) (xchg 0 b)) (xchg 0 c)) is_byte (λ d. Followed (xchg 0 d) (Got 0 (pushed w3 d))) l g3.2 in
      let d : ℕ = g4.0 in
      let v : ℕ = pushed w3 d in
      let ha : a < 256 = below_256 a g1.1 in
      let hb : b < 256 = below_256 b g2.1 in
      let hc : c < 256 = below_256 c g3.1 in
      let hd : d < 256 = below_256 d g4.1 in
      (v, word_test v (four_below w a b c d h ha hb hc hd), subst (λ rs. Followed (answers rs) (Followed close (next (Some v))) l) (sym (four_answers w a b c d h ha hb hc hd)) g4.2)

  got_more : (n w r : ℕ) → r < 256 → {k : Lists} → ((m : List Event) → k m → Got n (pushed w r) m) → (l : List Event) → Followed (xchg 0 r) k l → Got (suc n) w l
  got_more n w r h f l x = (r, byte_test r h, onward (xchg 0 r) f l x)

  got_from : (w : ℕ) → w < 2 ^ 32 → (l : List Event) → Valued l → Got 4 w l
  got_from w h l g = by_bytes (g.0 % 256) (g.0 / 256 % 256) (g.0 / 65536 % 256) (g.0 / 16777216 % 256) (omega arith) (omega arith) (omega arith) (omega arith) last
    where
      last : Followed (answers (bytes_of_word g.0)) (Got 0 (pushed (pushed (pushed (pushed w (g.0 % 256)) (g.0 / 256 % 256)) (g.0 / 65536 % 256)) (g.0 / 16777216 % 256))) l
      last = subst (λ q. Followed (answers (bytes_of_word g.0)) (Followed close (next (Some q))) l) (sym (word_again w g.0 h (below_word g.0 g.1))) g.2

      by_bytes : (a b c d : ℕ) → a < 256 → b < 256 → c < 256 → d < 256 → Followed (answers (a ∷ b ∷ c ∷ d ∷ [])) (Got 0 (pushed (pushed (pushed (pushed w a) b) c) d)) l → Got 4 w l
      by_bytes a b c d ha hb hc hd x =
          let w1 : ℕ = pushed w a in
          let w2 : ℕ = pushed w1 b in
          let w3 : ℕ = pushed w2 c in
          got_more 3 w a ha (got_more 2 w1 b hb (got_more 1 w2 c hc (got_more 0 w3 d hd (λ m y. y)))) l x

  valued : (w : ℕ) → w < 2 ^ 32 → Same (Sends (0 ∷ 0 ∷ 0 ∷ 0 ∷ []) w) (Ends (0 ∷ 0 ∷ 0 ∷ 0 ∷ []) Valued)
  valued w h = chain (got4 w h) (or_same (record { to = got_to w h; from = got_from w h }) same)

  pub read_same : (a : ℕ) → Same (Reads (transfer_step (read_bytes a)) Nowhere next (Within Opening)) (Or (ForSome is_word (λ v. Followed (rd a v) (next (Some v)))) (Followed (no_rd a) (next None)))
  read_same a =
      chain (transfer_same (read_bytes a))
      (chain (followed_same (One (St csmode 2)) (free_bytes (read_head a) (0 ∷ 0 ∷ 0 ∷ 0 ∷ []) Valued valued 0 small))
      (chain (followed_or (One (St csmode 2)) (Followed (free_xchgs (read_head a)) Valued) (Followed (broken_off (read_bytes a)) GivenUp))
      (or_same (followed_some (Sequence (One (St csmode 2)) (free_xchgs (read_head a))) is_word (λ v. Followed (answers (bytes_of_word v)) (Followed close (next (Some v))))) same)))
