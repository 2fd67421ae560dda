-- Places that the tests give to variables.
use Rattle.std.specs.Prelude.{ℕ, zero, suc, ◌+◌, nat_le, nat_lt, ◌&&◌, if◌then◌else◌}
use Rattle.std.specs.Prelude.{List, [], ◌∷◌, ◌++◌, map}
use Rattle.lb_flat.specs.declared.places.Place.{Place}
use Rattle.lb_flat.specs.declared.places.Place.TheVariants.{Register, Slot}
use Rattle.lb_flat.specs.Code.{Routine}

-- a register for each variable from `from` on and below `to`, a slot of its own number for others
abbrev pub chosen : (from to : ℕ) → ℕ → Place
chosen from to x = if nat_le from x && nat_lt x to then Register (18 + x) else Slot x

-- the places of the first so many variables
abbrev pub first_chosen : (from to : ℕ) → ℕ → List Place
first_chosen from to zero = []
first_chosen from to (suc n) = first_chosen from to n ++ chosen from to n ∷ []

-- those of each function's
abbrev pub all_chosen : (from to : ℕ) → List (Routine ℕ) → List (List Place)
all_chosen from to fs = map (λ (f : Routine ℕ). first_chosen from to f.variables) fs
