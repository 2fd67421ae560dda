-- The loop that reads a packet.
use Rattle.std.proofs.Common.{◌≡◌, ℕ, suc, ◌+◌, ◌*◌, ◌/◌, ◌%◌, ◌≤◌, ◌<◌, ◌^◌, IsTrue, List, [], ◌∷◌, ◌++◌, length, Option, Some, Result, Ok, refl, sym, ap, ◌∙◌, subst, arith, length-append, append_assoc, append-nil, flat_map}
use Rattle.std.proofs.lemmas.Bool.Decides.{nat_tests}
use Rattle.std.proofs.lemmas.Grind.{flat_map-append}
use Rattle.lb_word.specs.Word.{ltu_of, add_of}
use Rattle.lb_word.specs.Bytes.{bytes_of_word}
use Rattle.lb_syntax.specs.Tree.{Number, Variable, Operation, Command, Stores, Sets, chain}
use Rattle.lb_syntax.specs.WellFormed.{IsWord}
use Rattle.lb_syntax.specs.declared.tree.Op.TheVariants.{Add, Ltu}
use Rattle.lb_syntax.specs.declared.tree.Width.TheVariants.{Four}
use Rattle.lb_trace.specs.declared.Event.{Event}
use Rattle.lb_source.specs.Maps.{Memory, put}
use Rattle.lb_source.specs.Value.{or_unset, operated}
use Rattle.lb_source.specs.declared.ends.Reason.{Reason}
use Rattle.lb_source.specs.Run.{State, Outcome, Goes, Caller, run_with, value_in, then_do, at_zero, with_value, store, set, set_all, turns}
use Rattle.lb_grammar.specs.Forms.{Nothing, Sequence, Any, fewer_than, Repeated, none, more, Is, Begins}
use Rattle.lb_grammar.specs.Grammar.{is_word, rd, no_rd, words as reads_of}
use Rattle.lb_bulb.proofs.FormLemmas.{few_test, then_begins}
use Rattle.lb_bulb.specs.Supplied.{i_, len_, buf_, s_, v_, keep, receive_body, receive_test}
use Rattle.lb_bulb.proofs.Does.{AreWords, Does, goes, Reading, read, ReadOk}
use Rattle.lb_bulb.proofs.Rules.{Whole, Part, value_then, zero_then, call_then, loop_does}
use Rattle.lb_bulb.proofs.Calls.{read_starts}
use Rattle.lb_bulb.proofs.Buffer.{Owned, Holds, StoresTo, stores_word, holds_more, holds_full}

abbrev pub bytes_all : List ℕ → List ℕ
bytes_all ws = flat_map bytes_of_word ws

-- the words that a packet of this length has
abbrev pub count_of : ℕ → ℕ
count_of len = (len + 3) / 4

-- some words were read, and stand in the buffer
pub record Filled (base len st : ℕ) (u : State) (l : List Event) : Type 0 where
  pub words : List ℕ
  pub is : Is (reads_of words) l
  pub are_words : AreWords words
  pub index : u.variables i_ ≡ Some (4 * length words)
  pub bound : u.variables len_ ≡ Some len
  pub buffer : u.variables buf_ ≡ Some base
  pub status : u.variables s_ ≡ Some st
  pub holds : Holds base (bytes_all words) u.memory
  pub within : length words ≤ count_of len

-- all were read
pub record Received (base len st : ℕ) (u : State) (l : List Event) : Type 0 where
  pub filled : Filled base len st u l
  pub all : length filled.words ≡ count_of len

ltu_zero : (i k : ℕ) → ltu_of i k ≡ 0 → k ≤ i
ltu_zero i k h = grind (arith, nat_tests)

ltu_one : (i k n : ℕ) → ltu_of i k ≡ suc n → i < k
ltu_one i k n h = grind (arith, nat_tests)

-- ---- lists of words

word_test : (w : ℕ) → IsWord w → IsTrue (is_word w)
word_test w h = grind (arith, nat_tests)

words_more : (ws : List ℕ) (w : ℕ) (l m : List Event) → Is (reads_of ws) l → Is (rd 0 w) m → Is (reads_of (ws ++ w ∷ [])) (l ++ m)
words_more [] w l m h i =
    subst (λ (x : List Event). Is (Sequence (rd 0 w) Nothing) (x ++ m)) (sym h) (record { front = m; back = []; first = i; second = refl; whole = sym (append-nil m) })
words_more (v ∷ ws) w l m h i =
    record { front = h.front; back = h.back ++ m; first = h.first; second = words_more ws w h.back m h.second i; whole = ap (λ (x : List Event). x ++ m) h.whole ∙ append_assoc h.front h.back m }

words_times : (ws : List ℕ) (l : List Event) → AreWords ws → Is (reads_of ws) l → Repeated (Is (Any is_word (rd 0))) (length ws) l
words_times [] l g h = none h
words_times (w ∷ ws) l g h = more h.front h.back (w, word_test w g.0, h.first) (words_times ws h.back g.1 h.second) h.whole

one_word_more : (ws : List ℕ) (w : ℕ) → AreWords ws → IsWord w → AreWords (ws ++ w ∷ [])
one_word_more [] w g h = (h, tt)
one_word_more (v ∷ ws) w g h = (g.0, one_word_more ws w g.1 h)

bytes_more : (ws : List ℕ) (w : ℕ) → bytes_all (ws ++ w ∷ []) ≡ bytes_all ws ++ bytes_of_word w
bytes_more ws w = flat_map-append bytes_of_word ws (w ∷ [])

pub bytes_length : (ws : List ℕ) → length (bytes_all ws) ≡ 4 * length ws
bytes_length [] = refl
bytes_length (v ∷ ws) = let e = bytes_length ws in let f : length (bytes_of_word v ++ bytes_all ws) ≡ 4 + length (bytes_all ws) = length-append (bytes_of_word v) (bytes_all ws) in omega (arith, e, f)

-- ---- a word is kept

module _ (call : Caller) (n : ℕ) (os : List ℕ) where
  abbrev storing : Command
  storing = chain (Stores Four (Operation Add (Variable buf_) (Variable i_)) (Variable v_) ∷ [])

  abbrev stored_by : State → Result ℕ Reason → Result ℕ Reason → Outcome
  stored_by x a e = then_do (with_value a x (λ p. with_value e x (λ v. with_value (store 4 p v x.memory) x (λ m. Goes (record x { memory = m }))))) (λ y. Goes y)

  kept : (x : State) (base r : ℕ) (bs : List ℕ) (m : Memory) → x.variables i_ ≡ Some (length bs) → x.variables buf_ ≡ Some base → x.variables v_ ≡ Some r → base + length bs < 2 ^ 32 → store 4 (base + length bs) r x.memory ≡ Ok m
      → run_with call n os storing x ≡ Goes (record x { memory = m })
  kept x base r bs m ei eb ev small e =
      let p : add_of base (length bs) ≡ base + length bs = omega (arith, small) in
      ap (λ (o : Option ℕ). stored_by x (operated Add (or_unset o) (or_unset (x.variables i_))) (or_unset (x.variables v_))) eb
      ∙ ap (λ (o : Option ℕ). stored_by x (operated Add (Ok base) (or_unset o)) (or_unset (x.variables v_))) ei
      ∙ ap (λ (o : Option ℕ). stored_by x (Ok (add_of base (length bs))) (or_unset o)) ev
      ∙ ap (λ (a : ℕ). stored_by x (Ok a) (Ok r)) p
      ∙ ap (λ (o : Result Memory Reason). then_do (with_value o x (λ m. Goes (record x { memory = m }))) (λ y. Goes y)) e

  pub keep_then : (t : List Event) (w : Whole) (p : Part) (x : State) (base r : ℕ) (bs : List ℕ) (rest : State → Outcome) → x.variables i_ ≡ Some (length bs) → x.variables buf_ ≡ Some base → x.variables v_ ≡ Some r
      → base + 1520 ≤ 2 ^ 32 → length bs % 4 ≡ 0 → Holds base bs x.memory → ((m : Memory) → Holds base (bs ++ bytes_of_word r) m → Does t w p (rest (record x { memory = m })))
      → Does t w p (then_do (run_with call n os keep x) rest)
  keep_then t w p x base r bs rest ei eb ev room four h k =
      value_then (operated Ltu (or_unset (x.variables i_)) (Ok 1520)) (ltu_of (length bs) 1520) x t w p (λ v. at_zero v (Goes x) (run_with call n os storing x)) rest
      (ap (λ (o : Option ℕ). operated Ltu (or_unset o) (Ok 1520)) ei)
      (zero_then (ltu_of (length bs) 1520) t w p (Goes x) (run_with call n os storing x) rest
      (λ z. let f : 1520 ≤ length bs = ltu_zero (length bs) 1520 z in k x.memory (holds_full base bs (bytes_of_word r) x.memory f h))
      (λ j z.
      let f : length bs < 1520 = ltu_one (length bs) 1520 j z in
      let st : StoresTo 4 (base + length bs) r (bytes_of_word r) x.memory = stores_word (base + length bs) r x.memory (omega arith) (λ j i.
      let q : base + (length bs + j) ≡ base + length bs + j = omega arith in
      subst (λ (y : ℕ). Owned (x.memory y)) q (h.owned (length bs + j) (omega arith))) in
      subst (λ (o : Outcome). Does t w p (then_do o rest)) (sym (kept x base r bs st.memory ei eb ev (omega arith) st.is))
      (k st.memory (holds_more base bs (bytes_of_word r) x.memory st.memory h refl st.stored (omega arith)))))

-- ---- the loop

module _ (call : Caller) (ok : ReadOk call) (n : ℕ) (os : List ℕ) (base len st : ℕ) (room : base + 1520 ≤ 2 ^ 32) (small : len < 16384) where
  abbrev part : Part
  part = Begins (Sequence (fewer_than (count_of len) (Any is_word (rd 0))) (no_rd 0))

  abbrev test : (u : State) (l : List Event) → Filled base len st u l → ℕ
  test u l f = ltu_of (4 * length f.words) len

  abbrev body : State → Outcome
  body = run_with call n os receive_body

  tests : (u : State) (l : List Event) (f : Filled base len st u l) → value_in u receive_test ≡ Ok (test u l f)
  tests u l f = rw (f.index, f.bound) refl

  cut : (u : State) (l k : List Event) (f : Filled base len st u l) → length f.words < count_of len → Begins (no_rd 0) k → part (l ++ k)
  cut u l k f h c = then_begins (fewer_than (count_of len) (Any is_word (rd 0))) (no_rd 0) l k (length f.words, few_test (length f.words) (count_of len) h, words_times f.words l f.are_words f.is) c

  more_left : (u : State) (l : List Event) (f : Filled base len st u l) (k : ℕ) → test u l f ≡ suc k → length f.words < count_of len
  more_left u l f k z = let below : 4 * length f.words < len = ltu_one (4 * length f.words) len k z in omega (arith, below)

  spent : (u : State) (l : List Event) (f : Filled base len st u l) (k : ℕ) → test u l f ≡ suc k → part l
  spent u l f k z = subst part (append-nil l) (cut u l [] f (more_left u l f k z) (read_starts 0))

  done : (u : State) (l : List Event) (f : Filled base len st u l) → test u l f ≡ 0 → Received base len st u l
  done u l f z = let below : len ≤ 4 * length f.words = ltu_zero (4 * length f.words) len z in record { filled = f; all = omega (arith, f.within, below) }

  was_read : (t : List Event) (u : State) (l : List Event) (f : Filled base len st u l) (vs : List ℕ) (k : List Event) (qs : List ℕ) (g : ℕ) → length f.words < count_of len → AreWords qs → Reading 0 vs k → u.trace ++ k ≡ t ++ (l ++ k)
      → Does t (Filled base len st) part (then_do (run_with call n os keep (record u { variables = set_all (v_ ∷ []) vs u.variables; replies = qs; trace = u.trace ++ k; fuel = g }))
      (λ y. run_with call n os (chain (Sets i_ (Operation Add (Variable i_) (Number 4)) ∷ [])) y))
  was_read t u l f vs k qs g some_left ws (read {v = r} h i) z =
      let x : State = record u { variables = put v_ (Some r) u.variables; replies = qs; trace = u.trace ++ k; fuel = g } in
      let bs : List ℕ = bytes_all f.words in
      let e : length bs ≡ 4 * length f.words = bytes_length f.words in
      keep_then call n os t (Filled base len st) part x base r bs _ (f.index ∙ ap (λ (q : ℕ). Some q) (sym e)) f.buffer refl room (omega (arith, e)) f.holds
      (λ m holds.
      let y : State = record x { memory = m } in
      let a : add_of (4 * length f.words) 4 ≡ 4 * length (f.words ++ r ∷ []) = omega (arith, small, some_left, length-append f.words (r ∷ [])) in
      value_then (operated Add (or_unset (u.variables i_)) (Ok 4)) (4 * length (f.words ++ r ∷ [])) y t (Filled base len st) part (λ c. Goes (set i_ c y)) (λ y. Goes y)
      (ap (λ (o : Option ℕ). operated Add (or_unset o) (Ok 4)) f.index ∙ ap (λ (q : ℕ). Ok q) a)
      (goes (l ++ k) z ws (record {
        words = f.words ++ r ∷ [];
        is = words_more f.words r l k f.is i;
        are_words = one_word_more f.words r f.are_words h;
        index = refl;
        bound = f.bound;
        buffer = f.buffer;
        status = f.status;
        holds = subst (λ (q : List ℕ). Holds base q m) (sym (bytes_more f.words r)) holds;
        within = omega (arith, some_left, length-append f.words (r ∷ []));
      })))

  turn : (t : List Event) (u : State) (l : List Event) (f : Filled base len st u l) (g k : ℕ) → u.trace ≡ t ++ l → AreWords u.replies → test u l f ≡ suc k → Does t (Filled base len st) part (body (record u { fuel = g }))
  turn t u l f g k q ws z =
      let some_left : length f.words < count_of len = more_left u l f k z in
      let f' : Filled base len st (record u { fuel = g }) l =
      record { words = f.words; is = f.is; are_words = f.are_words; index = f.index; bound = f.bound; buffer = f.buffer; status = f.status; holds = f.holds; within = f.within } in
      call_then (record u { fuel = g }) (v_ ∷ []) (Reading 0) (Begins (no_rd 0)) _ _ t l (Filled base len st) part q
      (λ k h. cut u l k f some_left h)
      (λ vs k qs h qw r y. was_read t (record u { fuel = g }) l f' vs k qs h some_left qw r y)
      (ok 0 v_ (record u { fuel = g }) ws)

  pub receive_does : (u : State) → AreWords u.replies → Filled base len st u [] → Does u.trace (Received base len st) part (turns n receive_test body u)
  receive_does u ws f =
      loop_does u.trace receive_test body (Filled base len st) (Received base len st) part test tests spent done (turn u.trace) n u [] (sym (append-nil u.trace)) ws f
