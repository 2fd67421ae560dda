-- Where a list of faults is empty.
use Rattle.std.proofs.Common.{◌≡◌, ℕ, ◌≤◌, nat_lt, Bool, true, false, not, ◌||◌, ◌==◌, List, [], ◌∷◌, ◌++◌, refl, sym, ap, ◌∙◌, arith, All}
use Rattle.std.specs.Prelude.{flat_map}
use Rattle.std.proofs.lemmas.Bool.Decides.{nat_tests}
use Rattle.std.proofs.lemmas.List.Elements.{All-nil, All-cons, All-head, All-tail}
use Rattle.std.proofs.lemmas.Grind.{flat_map-append}
use Rattle.lb_check.specs.declared.fault.CheckFault.{CheckFault}
use Rattle.lb_check.specs.Faults.{where_true}

-- tests
pub where_none : (b : Bool) (e : CheckFault) → where_true b e ≡ [] → b ≡ false
where_none true e h = cc
where_none false e h = refl

pub none_where : (b : Bool) (e : CheckFault) → b ≡ false → where_true b e ≡ []
none_where true e h = cc
none_where false e h = refl

pub not_false : (b : Bool) → not b ≡ false → b ≡ true
not_false true h = refl
not_false false h = cc

pub false_not : (b : Bool) → b ≡ true → not b ≡ false
false_not true h = refl
false_not false h = cc

pub not_true : (b : Bool) → (b ≡ true → ⊥) → b ≡ false
not_true true h = absurd (h refl)
not_true false h = refl

pub neither : (a b : Bool) → (a || b) ≡ false → (a ≡ false) × (b ≡ false)
neither true b h = absurd (cc)
neither false b h = (refl, h)

pub from_neither : (a b : Bool) → a ≡ false → b ≡ false → (a || b) ≡ false
from_neither true b h k = cc
from_neither false b h k = k

pub either : (a b : Bool) → (a || b) ≡ true → (a ≡ false → b ≡ true)
either true b h e = cc
either false b h e = h

pub or_right : (a b : Bool) → b ≡ true → (a || b) ≡ true
or_right true b h = refl
or_right false b h = h

pub over : (m n : ℕ) → nat_lt m n ≡ false → n ≤ m
over m n h = grind (arith, nat_tests)

pub within : (m n : ℕ) → n ≤ m → nat_lt m n ≡ false
within m n h = grind (arith, nat_tests)

pub same_number : (m n : ℕ) → (m == n) ≡ true → m ≡ n
same_number m n h = grind (arith, nat_tests)

pub number_same : (m n : ℕ) → m ≡ n → (m == n) ≡ true
number_same m n h = grind (arith, nat_tests)

-- lists
pub both_none : {A : Type 0} (xs ys : List A) → xs ++ ys ≡ [] → (xs ≡ []) × (ys ≡ [])
both_none [] ys h = (refl, h)
both_none (x ∷ xs) ys h = absurd (cc)

pub none_both : {A : Type 0} (xs ys : List A) → xs ≡ [] → ys ≡ [] → xs ++ ys ≡ []
none_both [] ys h k = k
none_both (x ∷ xs) ys h k = cc

pub all_from_none : {A : Type 0} (F : A → List CheckFault) (P : A → Type 0) (xs : List A) → ((x : A) → F x ≡ [] → P x) → flat_map F xs ≡ [] → All P xs
all_from_none F P [] k h = All-nil P
all_from_none F P (x ∷ xs) k h = let b = both_none (F x) (flat_map F xs) h in All-cons P x xs (k x b.0) (all_from_none F P xs k b.1)

pub none_from_all : {A : Type 0} (F : A → List CheckFault) (P : A → Type 0) (xs : List A) → ((x : A) → P x → F x ≡ []) → All P xs → flat_map F xs ≡ []
none_from_all F P [] k h = refl
none_from_all F P (x ∷ xs) k h = none_both (F x) (flat_map F xs) (k x (All-head P x xs h)) (none_from_all F P xs k (All-tail P x xs h))

-- where each item of a list stands for several of another
pub spread : {A B : Type 0} (F : A → List CheckFault) (own : A → List B) (G : B → List CheckFault) → ((x : A) → F x ≡ flat_map G (own x))
    → (xs : List A) → flat_map F xs ≡ flat_map G (flat_map own xs)
spread F own G h [] = refl
spread F own G h (x ∷ xs) =
    ap (λ (ys : List CheckFault). ys ++ flat_map F xs) (h x)
    ∙ ap (λ (ys : List CheckFault). flat_map G (own x) ++ ys) (spread F own G h xs)
    ∙ sym (flat_map-append G (own x) (flat_map own xs))
