-- Kinds of lists with the same members.
use Rattle.std.proofs.Common.{ℕ, Bool, IsTrue, ◌⊎◌, inl, inr, List}
use Rattle.lb_trace.specs.declared.Event.{Event}
use Rattle.lb_grammar.specs.Forms.{Lists}

pub record Same (j k : List Event → Type 0) : Type 0 where
  pub to : (l : List Event) → j l → k l
  pub from : (l : List Event) → k l → j l

abbrev pub Or : Lists → Lists → Lists
Or j k l = j l ⊎ k l

-- of the kind of some number that passes the test
abbrev pub Some : (ℕ → Bool) → (ℕ → Lists) → Lists
Some test k l = (v : ℕ) × IsTrue (test v) × k v l

-- of the kind of some list of numbers that passes the test
abbrev pub SomeList : (List ℕ → Bool) → (List ℕ → Lists) → Lists
SomeList test k l = (vs : List ℕ) × IsTrue (test vs) × k vs l

pub same : {j : Lists} → Same j j
same = record { to = λ l h. h; from = λ l h. h }

pub back : {j k : Lists} → Same j k → Same k j
back g = record { to = g.from; from = g.to }

pub chain : {i j k : Lists} → Same i j → Same j k → Same i k
chain g h = record { to = λ l x. h.to l (g.to l x); from = λ l x. g.from l (h.from l x) }

in_either : {i j k m : Lists} → ((l : List Event) → i l → j l) → ((l : List Event) → k l → m l) → (l : List Event) → Or i k l → Or j m l
in_either f g l (inl h) = inl (f l h)
in_either f g l (inr h) = inr (g l h)

pub or_same : {i j k m : Lists} → Same i j → Same k m → Same (Or i k) (Or j m)
or_same g h = record { to = in_either g.to h.to; from = in_either g.from h.from }

swapped : (j k : Lists) (l : List Event) → Or j k l → Or k j l
swapped j k l (inl h) = inr h
swapped j k l (inr h) = inl h

pub swap : {j k : Lists} → Same (Or j k) (Or k j)
swap {j} {k} = record { to = swapped j k; from = swapped k j }

bracketed : (i j k : Lists) (l : List Event) → Or (Or i j) k l → Or i (Or j k) l
bracketed i j k l (inl (inl h)) = inl h
bracketed i j k l (inl (inr h)) = inr (inl h)
bracketed i j k l (inr h) = inr (inr h)

rebracketed : (i j k : Lists) (l : List Event) → Or i (Or j k) l → Or (Or i j) k l
rebracketed i j k l (inl h) = inl (inl h)
rebracketed i j k l (inr (inl h)) = inl (inr h)
rebracketed i j k l (inr (inr h)) = inr h

pub bracket : {i j k : Lists} → Same (Or (Or i j) k) (Or i (Or j k))
bracket {i} {j} {k} = record { to = bracketed i j k; from = rebracketed i j k }

pub some_same : {test : ℕ → Bool} {j k : ℕ → Lists} → ((v : ℕ) → IsTrue (test v) → Same (j v) (k v)) → Same (Some test j) (Some test k)
some_same g = record { to = λ l h. (h.0, h.1, (g h.0 h.1).to l h.2); from = λ l h. (h.0, h.1, (g h.0 h.1).from l h.2) }

pub some_or : (test : ℕ → Bool) (j k : ℕ → Lists) → Same (Some test (λ v. Or (j v) (k v))) (Or (Some test j) (Some test k))
some_or test j k = record { to = λ l h. by_kind l h.0 h.1 h.2; from = from }
  where
    by_kind : (l : List Event) (v : ℕ) → IsTrue (test v) → Or (j v) (k v) l → Or (Some test j) (Some test k) l
    by_kind l v t (inl h) = inl (v, t, h)
    by_kind l v t (inr h) = inr (v, t, h)

    from : (l : List Event) → Or (Some test j) (Some test k) l → Some test (λ v. Or (j v) (k v)) l
    from l (inl h) = (h.0, h.1, inl h.2)
    from l (inr h) = (h.0, h.1, inr h.2)

pub or_nothing : (j : Lists) {k : Lists} → ((l : List Event) → k l → ⊥) → Same j (Or j k)
or_nothing j {k} empty = record { to = λ l h. inl h; from = from }
  where
    from : (l : List Event) → Or j k l → j l
    from l (inl h) = h
    from l (inr h) = absurd (empty l h)

pub list_same : {test : List ℕ → Bool} {j k : List ℕ → Lists} → ((vs : List ℕ) → IsTrue (test vs) → Same (j vs) (k vs)) → Same (SomeList test j) (SomeList test k)
list_same g = record { to = λ l h. (h.0, h.1, (g h.0 h.1).to l h.2); from = λ l h. (h.0, h.1, (g h.0 h.1).from l h.2) }
