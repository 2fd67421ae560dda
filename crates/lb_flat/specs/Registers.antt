-- The registers that are left to placed code.
use Rattle.std.specs.Prelude.{◌≡◌, ◌↔◌, ℕ, ◌≤◌, ◌⊎◌}
use Rattle.lb_flat.specs.declared.registers.TheConstants.{FIRST_VARIABLE_REGISTER, LAST_VARIABLE_REGISTER, FIRST_SCRATCH_REGISTER, SECOND_SCRATCH_REGISTER, MOST_SAVED}

-- a register in which a variable may be kept
abbrev pub IsVariableRegister : ℕ → Type 0
IsVariableRegister r = (FIRST_VARIABLE_REGISTER ≤ r) × (r ≤ LAST_VARIABLE_REGISTER)

-- a register for values on their way from and to slots
abbrev pub IsScratchRegister : ℕ → Type 0
IsScratchRegister r = (r ≡ FIRST_SCRATCH_REGISTER) ⊎ (r ≡ SECOND_SCRATCH_REGISTER)

-- a register that placed code may name
abbrev pub IsPlacedRegister : ℕ → Type 0
IsPlacedRegister r = IsVariableRegister r ⊎ IsScratchRegister r

-- what the constants say: twelve registers for variables, two more for `place`, and as many saved as these fourteen and one more
pub record RegistersAre : Type 0 where
  pub variables : (r : ℕ) → IsVariableRegister r ↔ ((18 ≤ r) × (r ≤ 29))
  pub scratch : (r : ℕ) → IsScratchRegister r ↔ ((30 ≤ r) × (r ≤ 31))
  pub placed : (r : ℕ) → IsPlacedRegister r ↔ ((18 ≤ r) × (r ≤ 31))
  pub saved : MOST_SAVED ≡ 15
