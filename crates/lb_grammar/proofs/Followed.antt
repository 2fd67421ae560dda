-- Members of a form with what follows them: sequences are nested, so that no list is ever taken apart by hand.
use Rattle.std.proofs.Common.{◌≡◌, ℕ, zero, suc, Bool, IsTrue, nat_le, nat_lt, ◌⊎◌, inl, inr, List, [], ◌∷◌, ◌++◌, refl, sym, ap, ◌∙◌, subst, arith, append_assoc, append-nil}
use Rattle.std.proofs.lemmas.Bool.Decides.{nat_tests}
use Rattle.lb_trace.specs.declared.Event.{Event}
use Rattle.lb_grammar.specs.Forms.{Form, Nothing, One, Sequence, Exactly, Any, AnyList, Either, at_most, fewer_than, Lists, Concat, Repeated, none, more, Is}
use Rattle.lb_grammar.proofs.Same.{Same, Or, Some, SomeList, same, chain, or_same, swap, bracket, back as reversed}

-- a member of the form, and then a list of the kind
abbrev pub Followed : Form → Lists → Lists
Followed Nothing k l = k l
Followed (One e) k [] = ⊥
Followed (One e) k (d ∷ l) = (d ≡ e) × k l
Followed (Sequence a b) k l = Followed a (Followed b k) l
Followed (Exactly n a) k l = Concat (Repeated (Is a) n) k l
Followed (Any test form) k l = (v : ℕ) × IsTrue (test v) × Followed (form v) k l
Followed (AnyList test form) k l = (vs : List ℕ) × IsTrue (test vs) × Followed (form vs) k l
Followed (Either a b) k l = Followed a k l ⊎ Followed b k l

-- ---- the two parts

pub to_parts : (form : Form) (k : Lists) (l : List Event) → Followed form k l → Concat (Is form) k l
to_parts Nothing k l h = record { front = []; back = l; first = refl; second = h; whole = refl }
to_parts (One e) k [] h = absurd h
to_parts (One e) k (d ∷ l) h = record { front = d ∷ []; back = l; first = ap (λ x. x ∷ []) h.0; second = h.1; whole = refl }
to_parts (Sequence a b) k l h =
    let i : Concat (Is a) (Followed b k) l = to_parts a (Followed b k) l h in
    let j : Concat (Is b) k i.back = to_parts b k i.back i.second in
    record {
      front = i.front ++ j.front;
      back = j.back;
      first = record { front = i.front; back = j.front; first = i.first; second = j.first; whole = refl };
      second = j.second;
      whole = i.whole ∙ ap (λ m. i.front ++ m) j.whole ∙ sym (append_assoc i.front j.front j.back);
    }
to_parts (Exactly n a) k l h = h
to_parts (Any test form) k l h =
    let i : Concat (Is (form h.0)) k l = to_parts (form h.0) k l h.2 in
    record { front = i.front; back = i.back; first = (h.0, h.1, i.first); second = i.second; whole = i.whole }
to_parts (AnyList test form) k l h =
    let i : Concat (Is (form h.0)) k l = to_parts (form h.0) k l h.2 in
    record { front = i.front; back = i.back; first = (h.0, h.1, i.first); second = i.second; whole = i.whole }
to_parts (Either a b) k l (inl h) =
    let i : Concat (Is a) k l = to_parts a k l h in
    record { front = i.front; back = i.back; first = inl i.first; second = i.second; whole = i.whole }
to_parts (Either a b) k l (inr h) =
    let i : Concat (Is b) k l = to_parts b k l h in
    record { front = i.front; back = i.back; first = inr i.first; second = i.second; whole = i.whole }

pub joined : (form : Form) (k : Lists) (front back : List Event) → Is form front → k back → Followed form k (front ++ back)
joined Nothing k front back h i = subst (λ m. k (m ++ back)) (sym h) i
joined (One e) k front back h i = subst (λ m. Followed (One e) k (m ++ back)) (sym h) (refl, i)
joined (Sequence a b) k front back h i =
    let z : h.front ++ (h.back ++ back) ≡ front ++ back = sym (append_assoc h.front h.back back) ∙ ap (λ m. m ++ back) (sym h.whole) in
    subst (Followed a (Followed b k)) z (joined a (Followed b k) h.front (h.back ++ back) h.first (joined b k h.back back h.second i))
joined (Exactly n a) k front back h i = record { front = front; back = back; first = h; second = i; whole = refl }
joined (Any test form) k front back h i = (h.0, h.1, joined (form h.0) k front back h.2 i)
joined (AnyList test form) k front back h i = (h.0, h.1, joined (form h.0) k front back h.2 i)
joined (Either a b) k front back (inl h) i = inl (joined a k front back h i)
joined (Either a b) k front back (inr h) i = inr (joined b k front back h i)

pub from_parts : (form : Form) (k : Lists) (l : List Event) → Concat (Is form) k l → Followed form k l
from_parts form k l j = subst (Followed form k) (sym j.whole) (joined form k j.front j.back j.first j.second)

-- ---- what follows may change

pub onward : (form : Form) {j k : Lists} → ((l : List Event) → j l → k l) → (l : List Event) → Followed form j l → Followed form k l
onward form {j} {k} f l h =
    let i : Concat (Is form) j l = to_parts form j l h in
    from_parts form k l (record { front = i.front; back = i.back; first = i.first; second = f i.back i.second; whole = i.whole })

pub followed_same : (form : Form) {j k : Lists} → Same j k → Same (Followed form j) (Followed form k)
followed_same form g = record { to = onward form g.to; from = onward form g.from }

either_out : (form : Form) (j k : Lists) (l : List Event) → Followed form (Or j k) l → Or (Followed form j) (Followed form k) l
either_out form j k l h = by_second (to_parts form (Or j k) l h)
  where
    by_kind : (front back : List Event) → Is form front → l ≡ front ++ back → Or j k back → Or (Followed form j) (Followed form k) l
    by_kind front back f e (inl s) = inl (from_parts form j l (record { front = front; back = back; first = f; second = s; whole = e }))
    by_kind front back f e (inr s) = inr (from_parts form k l (record { front = front; back = back; first = f; second = s; whole = e }))

    by_second : Concat (Is form) (Or j k) l → Or (Followed form j) (Followed form k) l
    by_second i = by_kind i.front i.back i.first i.whole i.second

either_in : (form : Form) (j k : Lists) (l : List Event) → Or (Followed form j) (Followed form k) l → Followed form (Or j k) l
either_in form j k l (inl h) = onward form (λ m s. inl s) l h
either_in form j k l (inr h) = onward form (λ m s. inr s) l h

pub followed_or : (form : Form) (j k : Lists) → Same (Followed form (Or j k)) (Or (Followed form j) (Followed form k))
followed_or form j k = record { to = either_out form j k; from = either_in form j k }

pub some_out : (form : Form) (test : ℕ → Bool) (k : ℕ → Lists) (l : List Event) → Followed form (Some test k) l → Some test (λ v. Followed form (k v)) l
some_out form test k l h =
    let i : Concat (Is form) (Some test k) l = to_parts form (Some test k) l h in
    (i.second.0, i.second.1, from_parts form (k i.second.0) l (record { front = i.front; back = i.back; first = i.first; second = i.second.2; whole = i.whole }))

pub followed_some : (form : Form) (test : ℕ → Bool) (k : ℕ → Lists) → Same (Followed form (Some test k)) (Some test (λ v. Followed form (k v)))
followed_some form test k = record { to = some_out form test k; from = λ l h. onward form (λ m s. (h.0, h.1, s)) l h.2 }

pub list_out : (form : Form) (test : List ℕ → Bool) (k : List ℕ → Lists) (l : List Event) → Followed form (SomeList test k) l → SomeList test (λ vs. Followed form (k vs)) l
list_out form test k l h =
    let i : Concat (Is form) (SomeList test k) l = to_parts form (SomeList test k) l h in
    (i.second.0, i.second.1, from_parts form (k i.second.0) l (record { front = i.front; back = i.back; first = i.first; second = i.second.2; whole = i.whole }))

pub followed_list : (form : Form) (test : List ℕ → Bool) (k : List ℕ → Lists) → Same (Followed form (SomeList test k)) (SomeList test (λ vs. Followed form (k vs)))
followed_list form test k = record { to = list_out form test k; from = λ l h. onward form (λ m s. (h.0, h.1, s)) l h.2 }

-- nothing follows
abbrev pub AtEnd : Lists
AtEnd l = l ≡ []

pub alone : (form : Form) → Same (Followed form AtEnd) (Is form)
alone form = record { to = to; from = from }
  where
    to : (l : List Event) → Followed form AtEnd l → Is form l
    to l h =
        let i : Concat (Is form) AtEnd l = to_parts form AtEnd l h in
        subst (Is form) (sym (i.whole ∙ ap (λ m. i.front ++ m) i.second ∙ append-nil i.front)) i.first

    from : (l : List Event) → Is form l → Followed form AtEnd l
    from l h = subst (Followed form AtEnd) (append-nil l) (joined form AtEnd l [] h refl)

-- ---- repetitions

pub no_times : (item : Form) (k : Lists) → Same (Followed (Exactly zero item) k) k
no_times item k = record { to = to; from = λ l h. record { front = []; back = l; first = none refl; second = h; whole = refl } }
  where
    by_first : (front back l : List Event) → Repeated (Is item) zero front → k back → l ≡ front ++ back → k l
    by_first front back l (none e) h z = subst k (sym (z ∙ ap (λ m. m ++ back) e)) h

    to : (l : List Event) → Followed (Exactly zero item) k l → k l
    to l j = by_first j.front j.back l j.first j.second j.whole

pub one_time_more : (item : Form) (n : ℕ) (k : Lists) → Same (Followed (Exactly (suc n) item) k) (Followed item (Followed (Exactly n item) k))
one_time_more item n k = record { to = to; from = from }
  where
    by_first : (front back l : List Event) → Repeated (Is item) (suc n) front → k back → l ≡ front ++ back → Followed item (Followed (Exactly n item) k) l
    by_first front back l (more x r h t e) s z =
        let y : l ≡ x ++ (r ++ back) = z ∙ ap (λ m. m ++ back) e ∙ append_assoc x r back in
        from_parts item (Followed (Exactly n item) k) l (record { front = x; back = r ++ back; first = h; second = record { front = r; back = back; first = t; second = s; whole = refl }; whole = y })

    to : (l : List Event) → Followed (Exactly (suc n) item) k l → Followed item (Followed (Exactly n item) k) l
    to l j = by_first j.front j.back l j.first j.second j.whole

    from : (l : List Event) → Followed item (Followed (Exactly n item) k) l → Followed (Exactly (suc n) item) k l
    from l h =
        let i : Concat (Is item) (Followed (Exactly n item) k) l = to_parts item (Followed (Exactly n item) k) l h in
        record {
          front = i.front ++ i.second.front;
          back = i.second.back;
          first = more i.front i.second.front i.first i.second.first refl;
          second = i.second.second;
          whole = i.whole ∙ ap (λ m. i.front ++ m) i.second.whole ∙ sym (append_assoc i.front i.second.front i.second.back);
        }

few : (n : ℕ) → IsTrue (nat_le 0 n)
few n = grind (arith, nat_tests)

fewer : (k n : ℕ) → IsTrue (nat_le (suc k) (suc n)) → IsTrue (nat_le k n)
fewer k n h = grind (arith, nat_tests)

one_more : (k n : ℕ) → IsTrue (nat_le k n) → IsTrue (nat_le (suc k) (suc n))
one_more k n h = grind (arith, nat_tests)

none_below : (k : ℕ) → IsTrue (nat_le (suc k) 0) → ⊥
none_below k h = grind (arith, nat_tests)

at_most_none : (item : Form) (k : Lists) → Same (Followed (at_most zero item) k) k
at_most_none item k = record { to = λ l h. by_count l h.0 h.1 h.2; from = λ l h. (zero, refl, (no_times item k).from l h) }
  where
    by_count : (l : List Event) (n : ℕ) → IsTrue (nat_le n 0) → Followed (Exactly n item) k l → k l
    by_count l zero c h = (no_times item k).to l h
    by_count l (suc n) c h = absurd (none_below n c)

-- counts that pass a test, and counts that pass another one when they are one less
module _ (item : Form) (t u : ℕ → Bool) (least : IsTrue (u zero)) (down : (c : ℕ) → IsTrue (u (suc c)) → IsTrue (t c)) (up : (c : ℕ) → IsTrue (t c) → IsTrue (u (suc c))) (k : Lists) where
  abbrev Counted : (ℕ → Bool) → Lists
  Counted test = Followed (Any test (λ c. Exactly c item)) k

  by_count : (l : List Event) (c : ℕ) → IsTrue (u c) → Followed (Exactly c item) k l → Or k (Followed item (Counted t)) l
  by_count l zero i h = inl ((no_times item k).to l h)
  by_count l (suc c) i h = inr (onward item (λ q s. (c, down c i, s)) l ((one_time_more item c k).to l h))

  from : (l : List Event) → Or k (Followed item (Counted t)) l → Counted u l
  from l (inl h) = (zero, least, (no_times item k).from l h)
  from l (inr h) =
      let i : Concat (Is item) (Counted t) l = to_parts item (Counted t) l h in
      let c : ℕ = i.second.0 in
      (suc c, up c i.second.1, (one_time_more item c k).from l (from_parts item (Followed (Exactly c item) k) l (record { front = i.front; back = i.back; first = i.first; second = i.second.2; whole = i.whole })))

  one_count_more : Same (Counted u) (Or k (Followed item (Counted t)))
  one_count_more = record { to = λ l h. by_count l h.0 h.1 h.2; from = from }

at_most_more : (item : Form) (n : ℕ) (k : Lists) → Same (Followed (at_most (suc n) item) k) (Or k (Followed item (Followed (at_most n item) k)))
at_most_more item n k = one_count_more item (λ c. nat_le c n) (λ c. nat_le c (suc n)) (few (suc n)) (λ c i. fewer c n i) (λ c i. one_more c n i) k

fewer_below : (k n : ℕ) → IsTrue (nat_lt (suc k) (suc n)) → IsTrue (nat_lt k n)
fewer_below k n h = grind (arith, nat_tests)

one_more_below : (k n : ℕ) → IsTrue (nat_lt k n) → IsTrue (nat_lt (suc k) (suc n))
one_more_below k n h = grind (arith, nat_tests)

zero_below : (n : ℕ) → IsTrue (nat_lt 0 (suc n))
zero_below n = grind (arith, nat_tests)

nothing_below : (k : ℕ) → IsTrue (nat_lt k 0) → ⊥
nothing_below k h = grind (arith, nat_tests)

pub fewer_than_more : (item : Form) (n : ℕ) (k : Lists) → Same (Followed (fewer_than (suc n) item) k) (Or k (Followed item (Followed (fewer_than n item) k)))
fewer_than_more item n k = one_count_more item (λ c. nat_lt c n) (λ c. nat_lt c (suc n)) (zero_below n) (λ c i. fewer_below c n i) (λ c i. one_more_below c n i) k

pub fewer_than_none : (item : Form) (k : Lists) (l : List Event) → Followed (fewer_than zero item) k l → ⊥
fewer_than_none item k l h = nothing_below h.0 h.1

-- ---- tries: each is in vain, and then the next one comes, as long as some are left, or it is served

module _ (item : Form) (wait : ℕ → Lists) (served given_up : Lists) (last : Same (wait zero) (Or (Followed item given_up) served)) (next : (n : ℕ) → Same (wait (suc n)) (Or (Followed item (wait n)) served)) where
  pub tries : (n : ℕ) → Same (wait n) (Or (Followed (at_most n item) served) (Followed (Exactly (suc n) item) given_up))
  tries zero =
      chain last (chain swap (or_same (reversed (at_most_none item served)) (chain (followed_same item (reversed (no_times item given_up))) (reversed (one_time_more item zero given_up)))))
  tries (suc n) =
      chain (next n) (chain swap
      (chain (or_same same (chain (followed_same item (tries n)) (followed_or item (Followed (at_most n item) served) (Followed (Exactly (suc n) item) given_up))))
      (chain (reversed bracket) (or_same (reversed (at_most_more item n served)) (reversed (one_time_more item (suc n) given_up))))))
