-- A place of its own for each variable.
use Rattle.std.specs.Prelude.{◌≡◌, ℕ, ◌+◌, ◌-◌, ◌<◌, ◌≤◌, nat_lt, if◌then◌else◌, List, [], ◌∷◌, get_or, All}
use Rattle.lb_flat.specs.declared.registers.TheConstants.{FIRST_VARIABLE_REGISTER}
use Rattle.lb_flat.specs.declared.places.Place.{Place}
use Rattle.lb_flat.specs.declared.places.Place.TheVariants.{Register, Slot}
use Rattle.lb_flat.specs.declared.places.FunctionPlaces.{FunctionPlaces}
use Rattle.lb_flat.specs.declared.flat.FlatFunction.{FlatFunction}
use Rattle.lb_flat.specs.Flat.{flat_routine}
use Rattle.lb_flat.specs.Accepted.{AreAccepted}
use Rattle.lb_flat.specs.Order.{IsInRegister}
use Rattle.lb_alloc.specs.declared.allocation.TheConstants.{VARIABLE_REGISTERS}

-- a register for each of the first twelve, a slot for each further one
abbrev pub own_place : ℕ → Place
own_place x = if nat_lt x VARIABLE_REGISTERS then Register (FIRST_VARIABLE_REGISTER + x) else Slot (x - VARIABLE_REGISTERS)

-- such a place for each of so many
abbrev pub AreOwnPlaces : ℕ → List Place → Type 0
AreOwnPlaces n places = (x : ℕ) (d : Place) → x < n → get_or places x d ≡ own_place x

-- the places of a function are accepted, and registers if there are few
pub record IsServed (f : FlatFunction) (places : List Place) : Type 0 where
  pub accepted : AreAccepted (flat_routine f) places
  pub registers : f.variables ≤ 8 → All IsInRegister places

-- the places of each function, and of no more
abbrev pub AreServed : List FlatFunction → List FunctionPlaces → Type 0
AreServed [] [] = Unit {0}
AreServed (f ∷ fs) (p ∷ ps) = IsServed f p.places × AreServed fs ps
AreServed _ _ = ⊥
