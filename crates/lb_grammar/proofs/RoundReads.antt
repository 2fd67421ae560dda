-- The machine of a round reads the rounds, and those that were given up.
use Rattle.std.proofs.Common.{◌≡◌, ℕ, zero, suc, ◌&&◌, ◌==◌, not, nat_lt, Bool, true, false, IsTrue, inl, inr, List, [], ◌∷◌, length, refl, sym, ap, subst, arith, if◌then◌else◌}
use Rattle.std.specs.List.{list_all}
use Rattle.std.proofs.lemmas.Bool.Decides.{nat_tests}
use Rattle.lb_trace.specs.declared.Event.{Event}
use Rattle.lb_trace.specs.declared.Event.TheVariants.{Ld, St}
use Rattle.lb_grammar.specs.declared.progress.Progress.{Progress}
use Rattle.lb_grammar.specs.declared.progress.Progress.TheVariants.{Within, Done, Off}
use Rattle.lb_grammar.specs.declared.progress.Ending.{Ending}
use Rattle.lb_grammar.specs.declared.progress.Ending.TheVariants.{Whole, GivenUp}
use Rattle.lb_grammar.specs.declared.transfer.Transfer.TheVariants.{Opening}
use Rattle.lb_grammar.specs.declared.packet.Header.{Header}
use Rattle.lb_grammar.specs.declared.round.Rounding.{Rounding}
use Rattle.lb_grammar.specs.declared.round.Rounding.TheVariants.{Info, Status, Words, Loading, Storing}
use Rattle.lb_grammar.specs.Forms.{Form, One, Sequence, Any, AnyList, fewer_than, Lists}
use Rattle.lb_grammar.specs.Packet.{command}
use Rattle.lb_grammar.specs.Grammar.{output_val, rx_data_fifo, rx_status_fifo, rx_fifo_inf, is_word, waiting, word_count, has_words, fits, packet_bytes, is_valid_packet, with_command, read_bytes, rd, no_rd, empty, filled, words, packet, no_words, switch, round, no_round}
use Rattle.lb_grammar.specs.InternalMachine.{Reads, Nowhere}
use Rattle.lb_grammar.specs.InternalTransferring.{transfer_step}
use Rattle.lb_grammar.specs.InternalRounding.{nothing_seen, see, see_all, command_seen, words_left, after_info, after_status, after_word, round_step}
use Rattle.lb_grammar.proofs.Same.{Same, Or, Some as ForSome, SomeList, same, back, chain, or_same, swap, bracket, some_same, some_or, list_same, or_nothing}
use Rattle.lb_grammar.proofs.Followed.{Followed, onward, followed_same, followed_or, followed_some, followed_list, list_out, some_out, fewer_than_more, fewer_than_none}
use Rattle.lb_grammar.proofs.Reading.{equal, store_same, inside_same}
use Rattle.lb_grammar.proofs.TestLemmas.{both_true, first_true, second_true, not_true, not_false, by_test_same}
use Rattle.lb_grammar.proofs.TransferReads.{read_same}
use Rattle.lb_grammar.proofs.HeaderLemmas.{valid_is, command_is, valid_length}

same_length : (a b : ℕ) → IsTrue (suc a == suc b) → IsTrue (a == b)
same_length a b h = grind (arith, nat_tests)

one_longer : (a b : ℕ) → IsTrue (a == b) → IsTrue (suc a == suc b)
one_longer a b h = grind (arith, nat_tests)

none_same : (n : ℕ) → IsTrue (0 == suc n) → ⊥
none_same n h = grind (arith, nat_tests)

some_none : (n : ℕ) → IsTrue (suc n == 0) → ⊥
some_none n h = grind (arith, nat_tests)

some_words : (s k : ℕ) → IsTrue (is_word s) → IsTrue (nat_lt k (word_count s)) → IsTrue (has_words s)
some_words s k w h = grind (arith, nat_tests)

status_word : (s : ℕ) → IsTrue (has_words s) → IsTrue (is_word s)
status_word s h = grind (arith, nat_tests)

-- so many words
abbrev count_words : ℕ → List ℕ → Bool
count_words n ws = length ws == n && list_all is_word ws

word_in_front : (n w : ℕ) (ws : List ℕ) → IsTrue (is_word w) → IsTrue (count_words n ws) → IsTrue (count_words (suc n) (w ∷ ws))
word_in_front n w ws h t =
    both_true (suc (length ws) == suc n) (is_word w && list_all is_word ws) (one_longer (length ws) n (first_true (length ws == n) (list_all is_word ws) t))
    (both_true (is_word w) (list_all is_word ws) h (second_true (length ws == n) (list_all is_word ws) t))

first_word : (n w : ℕ) (ws : List ℕ) → IsTrue (count_words (suc n) (w ∷ ws)) → IsTrue (is_word w)
first_word n w ws t = first_true (is_word w) (list_all is_word ws) (second_true (suc (length ws) == suc n) (is_word w && list_all is_word ws) t)

other_words : (n w : ℕ) (ws : List ℕ) → IsTrue (count_words (suc n) (w ∷ ws)) → IsTrue (count_words n ws)
other_words n w ws t =
    both_true (length ws == n) (list_all is_word ws) (same_length (length ws) n (first_true (suc (length ws) == suc n) (is_word w && list_all is_word ws) t))
    (second_true (is_word w) (list_all is_word ws) (second_true (suc (length ws) == suc n) (is_word w && list_all is_word ws) t))

module _ (next : Ending → Lists) where
  abbrev R : Progress Rounding Ending → Lists
  R = Reads round_step Nowhere next

  -- ---- the switch

  storing : (x : ℕ) → Same (R (Within (Storing x))) (Followed (One (St output_val x)) (next Whole))
  storing x = store_same round_step Nowhere next (Storing x) output_val x (Done Whole) (λ h. h) (λ d v. refl) (λ d v. refl)

  module _ (c : Bool) where
    abbrev Load : Lists
    Load = ForSome is_word (λ v. Followed (One (Ld output_val v)) (R (Within (Storing (with_command v c)))))

    by_load : (a v : ℕ) (l : List Event) (t : Bool) → (a == output_val && is_word v) ≡ t → R (if t then Within (Storing (with_command v c)) else Off) l → Load (Ld a v ∷ l)
    by_load a v l true e h = (v, second_true (a == output_val) (is_word v) e, (ap (λ x. Ld x v) (equal a output_val (first_true (a == output_val) (is_word v) e)), h))
    by_load a v l false e h = absurd h

    load_to : (l : List Event) → R (Within (Loading c)) l → Load l
    load_to [] h = absurd h
    load_to (Ld a v ∷ l) h = by_load a v l (a == output_val && is_word v) refl h
    load_to (St a v ∷ l) h = absurd h

    load_from : (l : List Event) → Load l → R (Within (Loading c)) l
    load_from [] h = absurd h.2
    load_from (d ∷ l) h =
        let moved : round_step (Loading c) (Ld output_val h.0) ≡ Within (Storing (with_command h.0 c)) = ap (λ (t : Bool). if t then Within (Storing (with_command h.0 c)) else Off) h.1 in
        subst (λ x. R (round_step (Loading c) x) l) (sym h.2.0) (subst (λ q. R q l) (sym moved) h.2.1)

    loading : Same (R (Within (Loading c))) (Followed (switch c) (next Whole))
    loading = chain (record { to = load_to; from = load_from }) (some_same (λ v t. followed_same (One (Ld output_val v)) (storing (with_command v c))))

  -- ---- the words

  abbrev any_word : Form
  any_word = Any is_word (rd rx_data_fifo)

  module _ (s : ℕ) where
    -- what follows the last word
    abbrev After : Header → Lists
    After k = R (words_left s zero k)

    abbrev AllWords : ℕ → Header → Lists
    AllWords n k = SomeList (count_words n) (λ ws. Followed (words ws) (After (see_all k ws)))

    abbrev SomeWords : ℕ → Lists
    SomeWords n = Followed (Sequence (fewer_than n any_word) (no_rd rx_data_fifo)) (next GivenUp)

    no_word : (k : Header) → Same (After k) (AllWords zero k)
    no_word k = record { to = λ l h. ([], refl, h); from = λ l h. by_list l h.0 h.1 h.2 }
      where
        by_list : (l : List Event) (ws : List ℕ) → IsTrue (count_words zero ws) → Followed (words ws) (After (see_all k ws)) l → After k l
        by_list l [] t h = h
        by_list l (w ∷ ws) t h = absurd (some_none (length ws) (first_true (suc (length ws) == zero) (is_word w && list_all is_word ws) t))

    abbrev OneThenAll : ℕ → Header → Lists
    OneThenAll n k = ForSome is_word (λ w. Followed (rd rx_data_fifo w) (AllWords n (see k w)))

    one_word : (n : ℕ) (k : Header) → Same (OneThenAll n k) (AllWords (suc n) k)
    one_word n k = record { to = to; from = λ l h. by_list l h.0 h.1 h.2 }
      where
        to : (l : List Event) → OneThenAll n k l → AllWords (suc n) k l
        to l h =
            let g : SomeList (count_words n) (λ ws. Followed (rd rx_data_fifo h.0) (Followed (words ws) (After (see_all (see k h.0) ws)))) l =
            list_out (rd rx_data_fifo h.0) (count_words n) (λ ws. Followed (words ws) (After (see_all (see k h.0) ws))) l h.2 in
            (h.0 ∷ g.0, word_in_front n h.0 g.0 h.1 g.1, g.2)

        by_list : (l : List Event) (ws : List ℕ) → IsTrue (count_words (suc n) ws) → Followed (words ws) (After (see_all k ws)) l → OneThenAll n k l
        by_list l [] t h = absurd (none_same n (first_true (0 == suc n) (list_all is_word []) t))
        by_list l (w ∷ ws) t h = (w, first_word n w ws t, onward (rd rx_data_fifo w) (λ m i. (ws, other_words n w ws t, i)) l h)

    pub words_same : (n : ℕ) (k : Header) → Same (R (words_left s n k)) (Or (AllWords n k) (SomeWords n))
    words_same zero k = chain (no_word k) (or_nothing (AllWords zero k) (fewer_than_none any_word (Followed (no_rd rx_data_fifo) (next GivenUp))))
    words_same (suc n) k =
        chain (inside_same (transfer_step (read_bytes rx_data_fifo)) round_step (Words s n k) (after_word s n k) Nowhere next (λ q e. refl) (λ q h. h) (Within Opening))
        (chain (read_same (λ x. R (after_word s n k x)) rx_data_fifo)
        (chain (or_same
        (chain (some_same (λ w t. chain (followed_same (rd rx_data_fifo w) (words_same n (see k w))) (followed_or (rd rx_data_fifo w) (AllWords n (see k w)) (SomeWords n))))
        (chain (some_or is_word (λ w. Followed (rd rx_data_fifo w) (AllWords n (see k w))) (λ w. Followed (rd rx_data_fifo w) (SomeWords n))) (or_same (one_word n k) same)))
        same)
        (chain bracket (or_same same (chain swap (back (fewer_than_more any_word n (Followed (no_rd rx_data_fifo) (next GivenUp)))))))))

    -- ---- a packet

    abbrev Switched : Bool → List ℕ → Lists
    Switched true ws = Followed (switch (command (packet_bytes s ws))) (next Whole)
    Switched false ws = next Whole

    by_valid : (ws : List ℕ) (c valid : Bool) → (IsTrue valid → c ≡ command (packet_bytes s ws)) → Same (R (if valid then Within (Loading c) else Done Whole)) (Switched valid ws)
    by_valid ws c true e = subst (λ d. Same (R (Within (Loading c))) (Followed (switch d) (next Whole))) (e refl) (loading c)
    by_valid ws c false e = same

    length_is : (ws : List ℕ) → IsTrue (fits s ws) → length ws ≡ word_count s
    length_is ws t = equal (length ws) (word_count s) (first_true (length ws == word_count s) (list_all is_word ws) t)

    after_same : (ws : List ℕ) → IsTrue (fits s ws) → Same (After (see_all nothing_seen ws)) (Switched (is_valid_packet s ws) ws)
    after_same ws t =
        let k : Header = see_all nothing_seen ws in
        let e : length ws ≡ word_count s = length_is ws t in
        subst (λ v. Same (R (if v then Within (Loading (command_seen k)) else Done Whole)) (Switched (is_valid_packet s ws) ws)) (sym (valid_is s ws e))
        (by_valid ws (command_seen k) (is_valid_packet s ws) (λ valid. command_is s ws (valid_length s ws e valid) e))

    abbrev Dropped : Lists
    Dropped = Followed (AnyList (λ ws. fits s ws && not (is_valid_packet s ws)) (packet s)) (next Whole)

    abbrev Obeyed : Lists
    Obeyed = Followed (AnyList (λ ws. fits s ws && is_valid_packet s ws) (λ ws. Sequence (packet s ws) (switch (command (packet_bytes s ws))))) (next Whole)

    abbrev Packets : Lists
    Packets = SomeList (fits s) (λ ws. Followed (packet s ws) (Switched (is_valid_packet s ws) ws))

    packets_same : Same Packets (Or Dropped Obeyed)
    packets_same = record { to = λ l h. by_kind l h.0 (is_valid_packet s h.0) refl h.1 h.2; from = from }
      where
        by_kind : (l : List Event) (ws : List ℕ) (valid : Bool) → is_valid_packet s ws ≡ valid → IsTrue (fits s ws) → Followed (packet s ws) (Switched valid ws) l → Or Dropped Obeyed l
        by_kind l ws true e t h = inr (ws, both_true (fits s ws) (is_valid_packet s ws) t e, h)
        by_kind l ws false e t h = inl (ws, both_true (fits s ws) (not (is_valid_packet s ws)) t (not_true (is_valid_packet s ws) e), h)

        from : (l : List Event) → Or Dropped Obeyed l → Packets l
        from l (inl h) =
            let no : is_valid_packet s h.0 ≡ false = not_false (is_valid_packet s h.0) (second_true (fits s h.0) (not (is_valid_packet s h.0)) h.1) in
            (h.0, first_true (fits s h.0) (not (is_valid_packet s h.0)) h.1, subst (λ v. Followed (packet s h.0) (Switched v h.0) l) (sym no) h.2)
        from l (inr h) =
            let yes : is_valid_packet s h.0 ≡ true = second_true (fits s h.0) (is_valid_packet s h.0) h.1 in
            (h.0, first_true (fits s h.0) (is_valid_packet s h.0) h.1, subst (λ v. Followed (packet s h.0) (Switched v h.0) l) (sym yes) h.2)

    abbrev before_words : Form
    before_words = Sequence filled (rd rx_status_fifo s)

    abbrev Cut : Lists
    Cut = Followed (Sequence filled (Sequence (rd rx_status_fifo s) (no_words s))) (next GivenUp)

    packet_same : Same (Followed filled (Followed (rd rx_status_fifo s) (R (words_left s (word_count s) nothing_seen)))) (Or (Or Dropped Obeyed) Cut)
    packet_same =
        chain (followed_same before_words (words_same (word_count s) nothing_seen))
        (chain (followed_or before_words (AllWords (word_count s) nothing_seen) (SomeWords (word_count s)))
        (or_same
        (chain (followed_list before_words (fits s) (λ ws. Followed (words ws) (After (see_all nothing_seen ws))))
        (chain (list_same (λ ws t. followed_same (Sequence before_words (words ws)) (after_same ws t))) packets_same))
        same))

  -- ---- the whole

  abbrev NoStatus : Lists
  NoStatus = Followed (no_rd rx_status_fifo) (next GivenUp)

  status : Same (R (Within (Status Opening))) (Or (ForSome is_word (λ s. Followed (rd rx_status_fifo s) (R (words_left s (word_count s) nothing_seen)))) NoStatus)
  status =
      chain (inside_same (transfer_step (read_bytes rx_status_fifo)) round_step Status after_status Nowhere next (λ q e. refl) (λ q h. h) (Within Opening))
      (read_same (λ x. R (after_status x)) rx_status_fifo)

  abbrev AnyDropped : Lists
  AnyDropped = ForSome is_word Dropped

  abbrev AnyObeyed : Lists
  AnyObeyed = ForSome is_word Obeyed

  abbrev AnyCut : Lists
  AnyCut = ForSome is_word Cut

  after_filled : Same (Followed filled (R (Within (Status Opening)))) (Or (Or (Or AnyDropped AnyObeyed) AnyCut) (Followed filled NoStatus))
  after_filled =
      chain (followed_same filled status)
      (chain (followed_or filled (ForSome is_word (λ s. Followed (rd rx_status_fifo s) (R (words_left s (word_count s) nothing_seen)))) NoStatus)
      (or_same
      (chain (followed_some filled is_word (λ s. Followed (rd rx_status_fifo s) (R (words_left s (word_count s) nothing_seen))))
      (chain (some_same (λ s t. packet_same s))
      (chain (some_or is_word (λ s. Or (Dropped s) (Obeyed s)) Cut) (or_same (some_or is_word Dropped Obeyed) same))))
      same))

  abbrev Unsorted : Lists
  Unsorted = Or (Or (Followed empty (next Whole)) (Or (Or (Or AnyDropped AnyObeyed) AnyCut) (Followed filled NoStatus))) (Followed (no_rd rx_fifo_inf) (next GivenUp))

  info : Same (R (Within (Info Opening))) Unsorted
  info =
      chain (inside_same (transfer_step (read_bytes rx_fifo_inf)) round_step Info after_info Nowhere next (λ q e. refl) (λ q h. h) (Within Opening))
      (chain (read_same (λ x. R (after_info x)) rx_fifo_inf)
      (or_same
      (chain (by_test_same (rd rx_fifo_inf) (λ v. waiting v == 0) (λ b. R (if b then Done Whole else Within (Status Opening)))) (or_same same after_filled))
      same))

  -- a packet that was cut off has words
  cut_words : (s : ℕ) (l : List Event) → IsTrue (is_word s) → Cut s l → IsTrue (has_words s)
  cut_words s l w h =
      let g : ForSome (λ k. nat_lt k (word_count s)) (λ k. Followed (before_words s) (Followed (Rattle.lb_grammar.specs.Forms.Exactly k any_word) (Followed (no_rd rx_data_fifo) (next GivenUp)))) l =
      some_out (before_words s) (λ k. nat_lt k (word_count s)) (λ k. Followed (Rattle.lb_grammar.specs.Forms.Exactly k any_word) (Followed (no_rd rx_data_fifo) (next GivenUp))) l h in
      some_words s g.0 w g.1

  abbrev Sorted : Lists
  Sorted = Or (Followed round (next Whole)) (Followed no_round (next GivenUp))

  sort : (l : List Event) → Unsorted l → Sorted l
  sort l (inl (inl h)) = inl (inl h)
  sort l (inl (inr (inl (inl (inl h))))) = inl (inr (inl h))
  sort l (inl (inr (inl (inl (inr h))))) = inl (inr (inr h))
  sort l (inl (inr (inl (inr h)))) = inr (inr (inr (h.0, cut_words h.0 l h.1 h.2, h.2)))
  sort l (inl (inr (inr h))) = inr (inr (inl h))
  sort l (inr h) = inr (inl h)

  unsort : (l : List Event) → Sorted l → Unsorted l
  unsort l (inl (inl h)) = inl (inl h)
  unsort l (inl (inr (inl h))) = inl (inr (inl (inl (inl h))))
  unsort l (inl (inr (inr h))) = inl (inr (inl (inl (inr h))))
  unsort l (inr (inl h)) = inr h
  unsort l (inr (inr (inl h))) = inl (inr (inr h))
  unsort l (inr (inr (inr h))) = inl (inr (inl (inr (h.0, status_word h.0 h.1, h.2))))

  pub round_same : Same (R (Within (Info Opening))) (Or (Followed round (next Whole)) (Followed no_round (next GivenUp)))
  round_same = chain info (record { to = sort; from = unsort })
