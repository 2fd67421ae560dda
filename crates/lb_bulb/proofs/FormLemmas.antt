-- Members and prefixes put together from the left.
use Rattle.std.proofs.Common.{◌≡◌, ℕ, zero, suc, ◌%◌, ◌≤◌, ◌<◌, ◌^◌, ◌==◌, ◌&&◌, nat_le, nat_lt, inl, inr, List, [], ◌∷◌, ◌++◌, refl, sym, ap, ◌∙◌, subst, arith, IsTrue, append_assoc, append-nil, length, length-append, ◌+◌, take, slice_index}
use Rattle.std.proofs.lemmas.Bool.Decides.{nat_tests}
use Rattle.lb_trace.specs.declared.Event.{Event}
use Rattle.lb_trace.specs.declared.Event.TheVariants.{Ld, St}
use Rattle.lb_grammar.specs.Forms.{Form, Nothing, One, Sequence, Exactly, Any, AnyList, Either, at_most, Concat, Repeated, none, more, Is, Begins}
use Rattle.lb_grammar.specs.Grammar.{has_words, is_word, word_count, txdata, is_byte, is_busy, is_ready, busy_load, ready_load, sent, xchg, free_xchg, no_xchg, free_xchgs, answers, broken_off}

-- ---- tests

pub busy_test : (v : ℕ) → 2 ^ 31 ≤ v → v < 2 ^ 32 → IsTrue (is_busy v)
busy_test v h i = grind (arith, nat_tests)

pub ready_test : (v : ℕ) → v < 2 ^ 31 → IsTrue (is_ready v)
ready_test v h = grind (arith, nat_tests)

pub answer_test : (v r : ℕ) → v < 2 ^ 31 → v % 256 ≡ r → IsTrue (is_ready v && v % 256 == r)
answer_test v r h e = grind (arith, nat_tests)

pub byte_test : (r : ℕ) → r < 256 → IsTrue (is_byte r)
byte_test r h = grind (arith, nat_tests)

pub count_test : (k n : ℕ) → k ≤ n → IsTrue (nat_le k n)
count_test k n h = grind (arith, nat_tests)

pub few_test : (k n : ℕ) → k < n → IsTrue (nat_lt k n)
few_test k n h = grind (arith, nat_tests)

-- ---- members begin themselves

pub member_begins : (form : Form) (l : List Event) → Is form l → Begins form l
member_begins Nothing l h = h
member_begins (One e) l h = inr h
member_begins (Sequence a b) l j = inr (record { front = j.front; back = j.back; first = j.first; second = member_begins b j.back j.second; whole = j.whole })
member_begins (Exactly n a) l h = inl h
member_begins (Any test form) l h = (h.0, h.1, member_begins (form h.0) l h.2)
member_begins (AnyList test form) l h = (h.0, h.1, member_begins (form h.0) l h.2)
member_begins (Either a b) l (inl h) = inl (member_begins a l h)
member_begins (Either a b) l (inr h) = inr (member_begins b l h)

-- ---- sequences

pub then_is : (a b : Form) (l m : List Event) → Is a l → Is b m → Is (Sequence a b) (l ++ m)
then_is a b l m h i = record { front = l; back = m; first = h; second = i; whole = refl }

pub then_begins : (a b : Form) (l m : List Event) → Is a l → Begins b m → Begins (Sequence a b) (l ++ m)
then_begins a b l m h i = inr (record { front = l; back = m; first = h; second = i; whole = refl })

pub map_is : (a b c : Form) (l : List Event) → ((m : List Event) → Is b m → Is c m) → Is (Sequence a b) l → Is (Sequence a c) l
map_is a b c l f j = record { front = j.front; back = j.back; first = j.first; second = f j.back j.second; whole = j.whole }

-- brackets
pub assoc_is : (a b c : Form) (l : List Event) → Is (Sequence (Sequence a b) c) l → Is (Sequence a (Sequence b c)) l
assoc_is a b c l j =
    let k : Concat (Is a) (Is b) j.front = j.first in
    record {
      front = k.front;
      back = k.back ++ j.back;
      first = k.first;
      second = then_is b c k.back j.back k.second j.second;
      whole = j.whole ∙ ap (λ (m : List Event). m ++ j.back) k.whole ∙ append_assoc k.front k.back j.back;
    }

pub assoc_begins : (a b c : Form) (l : List Event) → Begins (Sequence (Sequence a b) c) l → Begins (Sequence a (Sequence b c)) l
assoc_begins a b c l (inl (inl h)) = inl h
assoc_begins a b c l (inl (inr j)) = inr (record { front = j.front; back = j.back; first = j.first; second = inl j.second; whole = j.whole })
assoc_begins a b c l (inr j) =
    let k : Concat (Is a) (Is b) j.front = j.first in
    inr (record {
      front = k.front;
      back = k.back ++ j.back;
      first = k.first;
      second = then_begins b c k.back j.back k.second j.second;
      whole = j.whole ∙ ap (λ (m : List Event). m ++ j.back) k.whole ∙ append_assoc k.front k.back j.back;
    })

-- ---- counts

-- one more behind them
pub times_more : (n : ℕ) (a : List Event → Type 0) (l m : List Event) → Repeated a n l → a m → Repeated a (suc n) (l ++ m)
times_more zero a l m (none e) h = more m [] h (none refl) (ap (λ (q : List Event). q ++ m) e ∙ sym (append-nil m))
times_more (suc n) a l m (more front back f t e) h =
    more front (back ++ m) f (times_more n a back m t h) (ap (λ (q : List Event). q ++ m) e ∙ append_assoc front back m)

-- no more than n of them, and then the rest
pub at_most_is : (k n : ℕ) (a b : Form) (l m : List Event) → k ≤ n → Repeated (Is a) k l → Is b m → Is (Sequence (at_most n a) b) (l ++ m)
at_most_is k n a b l m h t i = then_is (at_most n a) b l m (k, count_test k n h, t) i

-- fewer than n of them begin n of them, where one of them begins with nothing
pub fewer_begin : (k n : ℕ) (a : Form) (l : List Event) → k < n → Begins a [] → Repeated (Is a) k l → Begins (Exactly n a) l
fewer_begin k n a l h b t = inr (record { count = k; below = h; parts = record { front = l; back = []; first = t; second = b; whole = sym (append-nil l) } })

-- ---- free_xchgs

pub busy_begins : (a : ℕ) → Begins (busy_load a) []
busy_begins a = (2 ^ 31, refl, inl refl)

pub nothing_begins_no_xchg : (b : ℕ) → Begins (no_xchg b) []
nothing_begins_no_xchg b = inl (fewer_begin 0 1000 (busy_load txdata) [] (omega arith) (busy_begins txdata) (none refl))

-- the byte was sent after a wait that ended with this load
was_sent : (b v : ℕ) (l : List Event) → v < 2 ^ 31 → Is (Sequence (at_most 999 (busy_load txdata)) (One (Ld txdata v))) l → Is (sent b) (l ++ St txdata b ∷ [])
was_sent b v l h j =
    let k : Is (Sequence (at_most 999 (busy_load txdata)) (ready_load txdata)) l =
    map_is (at_most 999 (busy_load txdata)) (One (Ld txdata v)) (ready_load txdata) l (λ q g. (v, ready_test v h, g)) j in
    assoc_is (at_most 999 (busy_load txdata)) (ready_load txdata) (One (St txdata b)) _
    (then_is (Sequence (at_most 999 (busy_load txdata)) (ready_load txdata)) (One (St txdata b)) l (St txdata b ∷ []) k refl)

pub sent_is : (b v : ℕ) (rest : Form) (l m : List Event) → v < 2 ^ 31 → Is (Sequence (at_most 999 (busy_load txdata)) (One (Ld txdata v))) l → Is rest m → Is (Sequence (sent b) rest) ((l ++ St txdata b ∷ []) ++ m)
sent_is b v rest l m h j i = then_is (sent b) rest (l ++ St txdata b ∷ []) m (was_sent b v l h j) i

pub sent_begins : (b v : ℕ) (rest : Form) (l m : List Event) → v < 2 ^ 31 → Is (Sequence (at_most 999 (busy_load txdata)) (One (Ld txdata v))) l → Begins rest m → Begins (Sequence (sent b) rest) ((l ++ St txdata b ∷ []) ++ m)
sent_begins b v rest l m h j i = then_begins (sent b) rest (l ++ St txdata b ∷ []) m (was_sent b v l h j) i

-- some bytes and then another one
pub exchanges_more : (bs : List ℕ) (b : ℕ) (l m : List Event) → Is (free_xchgs bs) l → Is (free_xchg b) m → Is (free_xchgs (bs ++ b ∷ [])) (l ++ m)
exchanges_more [] b l m h i =
    subst (λ (x : List Event). Is (Sequence (free_xchg b) Nothing) (x ++ m)) (sym h) (record { front = m; back = []; first = i; second = refl; whole = sym (append-nil m) })
exchanges_more (c ∷ bs) b l m h i =
    record { front = h.front; back = h.back ++ m; first = h.first; second = exchanges_more bs b h.back m h.second i; whole = ap (λ (x : List Event). x ++ m) h.whole ∙ append_assoc h.front h.back m }

pub answers_more : (rs : List ℕ) (r : ℕ) (l m : List Event) → Is (answers rs) l → Is (xchg 0 r) m → Is (answers (rs ++ r ∷ [])) (l ++ m)
answers_more [] r l m h i =
    subst (λ (x : List Event). Is (Sequence (xchg 0 r) Nothing) (x ++ m)) (sym h) (record { front = m; back = []; first = i; second = refl; whole = sym (append-nil m) })
answers_more (c ∷ rs) r l m h i =
    record { front = h.front; back = h.back ++ m; first = h.first; second = answers_more rs r h.back m h.second i; whole = ap (λ (x : List Event). x ++ m) h.whole ∙ append_assoc h.front h.back m }

-- the answer of an exchange is a byte
pub answer_byte : (b r : ℕ) (l : List Event) → Is (xchg b r) l → r < 256
answer_byte b r l j = by_test j.second.second.0 r j.second.second.1
  where
    by_test : (v r : ℕ) → IsTrue (is_ready v && v % 256 == r) → r < 256
    by_test v r h = grind (arith, nat_tests)

pub free_is : (b r : ℕ) (l : List Event) → Is (xchg b r) l → Is (free_xchg b) l
free_is b r l h = (r, byte_test r (answer_byte b r l h), h)

-- ---- the first bytes, and the next one in vain

some_before : (front back : List ℕ) (b : ℕ) → IsTrue (nat_lt (length front) (length (front ++ b ∷ back)))
some_before front back b =
    let e : length (front ++ b ∷ back) ≡ length front + suc (length back) = length-append front (b ∷ back) in
    few_test (length front) (length (front ++ b ∷ back)) (omega (arith, e))

those_before : (front back : List ℕ) (b : ℕ) → take (length front) (front ++ b ∷ back) ≡ front
those_before [] back b = refl
those_before (c ∷ front) back b = ap (λ (x : List ℕ). c ∷ x) (those_before front back b)

next_one : (front back : List ℕ) (b : ℕ) → slice_index (front ++ b ∷ back) (length front) ≡ b
next_one [] back b = refl
next_one (c ∷ front) back b = next_one front back b

abbrev broken_at : List ℕ → ℕ → Form
broken_at bs c = Sequence (free_xchgs bs) (no_xchg c)

pub broken_is : (front back : List ℕ) (b : ℕ) (l m : List Event) → Is (free_xchgs front) l → Is (no_xchg b) m → Is (broken_off (front ++ b ∷ back)) (l ++ m)
broken_is front back b l m h i = (
  length front,
  some_before front back b,
  subst (λ (bs : List ℕ). Is (broken_at bs (slice_index (front ++ b ∷ back) (length front))) (l ++ m)) (sym (those_before front back b))
      (subst (λ (c : ℕ). Is (broken_at front c) (l ++ m)) (sym (next_one front back b)) (then_is (free_xchgs front) (no_xchg b) l m h i)),
)

pub broken_begins : (front back : List ℕ) (b : ℕ) (l m : List Event) → Is (free_xchgs front) l → Begins (no_xchg b) m → Begins (broken_off (front ++ b ∷ back)) (l ++ m)
broken_begins front back b l m h i = (
  length front,
  some_before front back b,
  subst (λ (bs : List ℕ). Begins (broken_at bs (slice_index (front ++ b ∷ back) (length front))) (l ++ m)) (sym (those_before front back b))
      (subst (λ (c : ℕ). Begins (broken_at front c) (l ++ m)) (sym (next_one front back b)) (then_begins (free_xchgs front) (no_xchg b) l m h i)),
)

abbrev pub zeros_for : List ℕ → List ℕ
zeros_for [] = []
zeros_for (r ∷ rs) = 0 ∷ zeros_for rs

-- answers are free_xchgs of zeros
pub answers_free : (rs : List ℕ) (l : List Event) → Is (answers rs) l → Is (free_xchgs (zeros_for rs)) l
answers_free [] l h = h
answers_free (r ∷ rs) l h = record { front = h.front; back = h.back; first = free_is 0 r h.front h.first; second = answers_free rs h.back h.second; whole = h.whole }

pub exchanges_join : (bs cs : List ℕ) (l m : List Event) → Is (free_xchgs bs) l → Is (free_xchgs cs) m → Is (free_xchgs (bs ++ cs)) (l ++ m)
exchanges_join [] cs l m h i = subst (λ (x : List Event). Is (free_xchgs cs) (x ++ m)) (sym h) i
exchanges_join (b ∷ bs) cs l m h i =
    record { front = h.front; back = h.back ++ m; first = h.first; second = exchanges_join bs cs h.back m h.second i; whole = ap (λ (x : List Event). x ++ m) h.whole ∙ append_assoc h.front h.back m }

-- a status of which some words aren't read
pub some_words : (s i : ℕ) → IsTrue (is_word s) → i < word_count s → IsTrue (has_words s)
some_words s i h g = grind (arith, nat_tests)

pub has_word : (s : ℕ) → IsTrue (has_words s) → IsTrue (is_word s)
has_word s h = grind (arith, nat_tests)

pub few_below : (k n : ℕ) → IsTrue (nat_lt k n) → k < n
few_below k n h = grind (arith, nat_tests)
