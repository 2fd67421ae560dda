-- Where each variable of a program is kept.
use Rattle.std.specs.Prelude.{ℕ, List, [], map, get_or, Option, Some, None}
use Rattle.lb_flat.specs.declared.places.Place.{Place}
use Rattle.lb_flat.specs.declared.places.Place.TheVariants.{Register, Slot}
use Rattle.lb_flat.specs.declared.places.FunctionPlaces.{FunctionPlaces}
use Rattle.lb_flat.specs.declared.places.Places.{Places}

-- for each function the list of its variables' places
abbrev pub lists_of : Places → List (List Place)
lists_of p = map (λ (f : FunctionPlaces). f.places) p.functions

-- the places of a function's variables
abbrev pub places_at : List (List Place) → ℕ → List Place
places_at lists f = get_or lists f []

-- the place of a variable. In a program that is in order each has one: for another any would do
abbrev pub place_of : List Place → ℕ → Place
place_of places x = get_or places x (Slot 0)

-- the place of a function's variable
abbrev pub located_at : List (List Place) → ℕ → ℕ → Place
located_at lists f = place_of (places_at lists f)

-- the register, if it is one
abbrev pub register_of : Place → Option ℕ
register_of (Register r) = Some r
register_of (Slot s) = None
