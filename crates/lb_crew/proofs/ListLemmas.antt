-- Lists: what stands at which place.
use Rattle.std.proofs.Common.{◌≡◌, ◌≤◌, ◌<◌, ◌⊎◌, ℕ, zero, suc, ◌+◌, List, [], ◌∷◌, ◌++◌, length, get_or, slice_get, Some, refl, ap, ⊎_elim, inl, inr, arith}
use mathlib.Core.Option.{some}
use lib.ListN.{get_elem?}

pub below_one_more : (n m : ℕ) → n < m + 1 → (n < m) ⊎ (n ≡ m)
below_one_more zero zero b = inr refl
below_one_more zero (suc m) b = inl (omega arith)
below_one_more (suc n) zero b = absurd (omega (arith, b))
below_one_more (suc n) (suc m) b =
    ⊎_elim (λ h. inl (omega (arith, h))) (λ h. inr (ap suc h)) (below_one_more n m (omega (arith, b)))

module _ {A : Type 0} where
  -- what stands in a list with one more stood there before, or is the one
  pub at_one_more : (l : List A) (a b : A) (n : ℕ) → slice_get (l ++ a ∷ []) n ≡ Some b → (slice_get l n ≡ Some b) ⊎ ((n ≡ length l) × (a ≡ b))
  at_one_more [] a b zero e = inr (refl, cc e)
  at_one_more [] a b (suc n) e = absurd (cc e)
  at_one_more (x ∷ xs) a b zero e = inl e
  at_one_more (x ∷ xs) a b (suc n) e = ⊎_elim inl (λ t. inr (ap suc t.0, t.1)) (at_one_more xs a b n e)

  pub slice_within : (l : List A) (a : A) (n : ℕ) → slice_get l n ≡ Some a → n ≤ length l
  slice_within [] a n e = absurd (cc e)
  slice_within (x ∷ xs) a zero e = omega arith
  slice_within (x ∷ xs) a (suc n) e = let h = slice_within xs a n e in omega (arith, h)

  pub there_at : (l : List A) (n : ℕ) (d : A) → n < length l → get_elem? l n ≡ some (get_or l n d)
  there_at [] n d b = absurd (omega (arith, b))
  there_at (x ∷ xs) zero d b = refl
  there_at (x ∷ xs) (suc n) d b = there_at xs n d (omega (arith, b))
