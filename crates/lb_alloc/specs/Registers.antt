-- Which variables are sure to have registers.
use Rattle.std.specs.Prelude.{◌≡◌, ℕ, ◌≤◌, Some, slice_get, All}
use Rattle.lb_flat.specs.declared.places.Places.{Places}
use Rattle.lb_flat.specs.declared.flat.FlatProgram.{FlatProgram}
use Rattle.lb_flat.specs.Code.{Routine}
use Rattle.lb_flat.specs.Flat.{flat_executable}
use Rattle.lb_flat.specs.Located.{lists_of, places_at}
use Rattle.lb_flat.specs.Order.{IsInRegister}

-- in each function of at most 8 variables, each variable has a register
abbrev pub FewHaveRegisters : FlatProgram → Places → Type 0
FewHaveRegisters flat places =
    (k : ℕ) (f : Routine ℕ) → slice_get (flat_executable flat).routines k ≡ Some f → f.variables ≤ 8 → All IsInRegister (places_at (lists_of places) k)
