-- The registers by their numbers.
use Rattle.std.proofs.Common.{ℕ, ◌<◌, ◌≤◌, ◌⊎◌, inl, inr, refl, arith}
use Rattle.std.proofs.lemmas.Bool.{cases_lt}
use Rattle.lb_flat.specs.Registers.{IsScratchRegister, IsPlacedRegister, RegistersAre}

scratch_in : (r : ℕ) → IsScratchRegister r → (30 ≤ r) × (r ≤ 31)
scratch_in r (inl e) = (omega (arith, e), omega (arith, e))
scratch_in r (inr e) = (omega (arith, e), omega (arith, e))

scratch_of : (r : ℕ) → 30 ≤ r → r ≤ 31 → IsScratchRegister r
scratch_of r low high = either (cases_lt r 31)
  where
    either : (r < 31) ⊎ (31 ≤ r) → IsScratchRegister r
    either (inl h) = inl (omega (arith, low, h))
    either (inr h) = inr (omega (arith, high, h))

placed_in : (r : ℕ) → IsPlacedRegister r → (18 ≤ r) × (r ≤ 31)
placed_in r (inl (low, high)) = (low, omega (arith, high))
placed_in r (inr s) = let k = scratch_in r s in (omega (arith, k.0), k.1)

placed_of : (r : ℕ) → 18 ≤ r → r ≤ 31 → IsPlacedRegister r
placed_of r low high = either (cases_lt r 30)
  where
    either : (r < 30) ⊎ (30 ≤ r) → IsPlacedRegister r
    either (inl h) = inl (low, omega (arith, h))
    either (inr h) = inr (scratch_of r h high)

pub registers_are : RegistersAre
registers_are = record {
  variables = λ r. (λ h. h, λ h. h);
  scratch = λ r. (scratch_in r, λ h. scratch_of r h.0 h.1);
  placed = λ r. (placed_in r, λ h. placed_of r h.0 h.1);
  saved = refl;
}
