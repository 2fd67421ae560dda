-- Texts in which each value is two characters.
use Rattle.std.proofs.Common.{◌≡◌, ℕ, ◌≤◌, List, [], ◌∷◌, ◌++◌, length, take, drop, get_or, refl, arith}
use Rattle.std.specs.List.{All, flat_map}
use Rattle.std.proofs.lemmas.List.Elements.{All-head, All-tail}

module _ {A : Type 0} (f g : A → ℕ) where
  abbrev pub pairs : List A → List ℕ
  pairs = flat_map (λ x. f x ∷ g x ∷ [])

  -- the two characters behind some values are a value's
  pub pair_within : (P : A → Type 0) (xs ys : List A) (p q : ℕ) (rest : List ℕ) → All P ys → pairs xs ++ p ∷ q ∷ rest ≡ pairs ys
      → (y : A) × P y × (p ≡ f y) × (q ≡ g y)
  pair_within P [] [] p q rest all e = let no : ⊥ = cc in absurd no
  pair_within P [] (y ∷ ys) p q rest all e = (y, All-head P y ys all, cc, cc)
  pair_within P (x ∷ xs) [] p q rest all e = let no : ⊥ = cc in absurd no
  pair_within P (x ∷ xs) (y ∷ ys) p q rest all e = pair_within P xs ys p q rest (All-tail P y ys all) cc

  -- no single character is left behind some values
  pub no_single : (xs ys : List A) (p : ℕ) → pairs xs ++ p ∷ [] ≡ pairs ys → ⊥
  no_single [] [] p e = cc
  no_single [] (y ∷ ys) p e = cc
  no_single (x ∷ xs) [] p e = cc
  no_single (x ∷ xs) (y ∷ ys) p e = no_single xs ys p cc

-- a list that begins with two
pub two_first : (rest pair behind : List ℕ) → 2 ≤ length rest → pair ≡ take 2 rest → behind ≡ drop 2 rest → rest ≡ get_or pair 0 0 ∷ get_or pair 1 0 ∷ behind
two_first [] pair behind h e e' = absurd (omega (arith, h))
two_first (x ∷ []) pair behind h e e' = absurd (omega (arith, h))
two_first (x ∷ y ∷ more) pair behind h e e' = rw (e, e')

-- a list of fewer than two that isn't empty
pub one_left : (rest : List ℕ) → length rest ≤ 1 → (length rest ≡ 0 → ⊥) → (x : ℕ) × (rest ≡ x ∷ [])
one_left [] h n = absurd (n refl)
one_left (x ∷ []) h n = (x, refl)
one_left (x ∷ y ∷ more) h n = absurd (omega (arith, h))
