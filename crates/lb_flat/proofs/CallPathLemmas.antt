-- Paths of calls in a program where one function alone is called, and calls nobody.
use Rattle.std.proofs.Common.{◌≡◌, ℕ, List, [], ◌∷◌, arith, subst, Contains, slice_get}
use Rattle.lb_flat.specs.Code.{Routine}
use Rattle.lb_flat.specs.Calls.{callees_of, IsRecursive}

-- a function without calls calls nobody
pub calls_none : {X : Type 0} (fs : List (Routine X)) (g h : ℕ) → callees_of (slice_get fs g) ≡ [] → Contains (callees_of (slice_get fs g)) h → ⊥
calls_none fs g h e c = empty (subst (λ (l : List ℕ). Contains l h) e c)
  where
    empty : Contains [] h → ⊥
    empty k = absurd (omega (arith, k.1))

module _ (X : Type 0) (fs : List (Routine X)) (last : ℕ) (none : callees_of (slice_get fs last) ≡ []) (only : (g h : ℕ) → Contains (callees_of (slice_get fs g)) h → h ≡ last) where
  -- no path is longer than one call
  pub only_one_call : (g h i : ℕ) → Contains (callees_of (slice_get fs g)) h → Contains (callees_of (slice_get fs h)) i → ⊥
  only_one_call g h i c d = calls_none fs last i none (subst (λ (k : ℕ). Contains (callees_of (slice_get fs k)) i) (only g h c) d)

  pub not_recursive : (g : ℕ) → IsRecursive fs g → ⊥
  not_recursive g ([], k) = only_one_call g g g k.1 k.1
  not_recursive g (h ∷ [], k) = only_one_call g h g k.1 k.2.1
  not_recursive g (h ∷ i ∷ path, k) = only_one_call g h i k.1 k.2.1
