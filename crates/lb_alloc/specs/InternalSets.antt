-- Sets of a function's variables, as lists that say for each variable whether it is in.
use Rattle.std.specs.Prelude.{◌≡◌, ◌≢◌, ◌↔◌, ℕ, Bool, true, false, List, get_or, All, IsTrue}
use Rattle.lb_flat.specs.declared.places.Place.{Place}
use Rattle.lb_flat.specs.Code.{Code, Routine}
use Rattle.lb_flat.specs.Order.{EachName, IsVariable}
use Rattle.lb_flat.specs.Located.{place_of}
use Rattle.lb_flat.specs.Liveness.{live_before, live, Apart, IsApart, IsApartIn}

abbrev pub has : List Bool → ℕ → Bool
has set x = get_or set x false

-- the set has what is live before a step that reads and sets these, if the other one has what is live behind it
abbrev pub IsLiveBeforeStep : List ℕ → List ℕ → List Bool → List Bool → Type 0
IsLiveBeforeStep reads sets behind set = (x : ℕ) → has set x ≡ live_before x reads sets (has behind x)

-- the same of a command or a block
abbrev pub IsLiveBefore : Code ℕ → List Bool → List Bool → Type 0
IsLiveBefore c behind set = (x : ℕ) → has set x ≡ live x c (has behind x)

-- no other variable of the set has this one's place
abbrev pub IsAlone : (ℕ → Place) → List Bool → ℕ → Type 0
IsAlone place set u = (x : ℕ) → has set x ≡ true → u ≢ x → place u ≢ place x

-- variables that are set at once are apart from each that is live behind this
abbrev pub AreAllApart : (ℕ → Place) → List ℕ → List Bool → Type 0
AreAllApart place sets behind = (x : ℕ) → Apart place x sets (has behind x)

-- the same at each setting of a command or a block
abbrev pub IsAllApart : (ℕ → Place) → Code ℕ → List Bool → Type 0
IsAllApart place c behind = (x : ℕ) → IsApart place x c (has behind x)

-- the answer tells whether they are
abbrev pub TellsAllApart : List Place → Code ℕ → List Bool → Bool → Type 0
TellsAllApart places c behind answer = IsTrue answer ↔ IsAllApart (place_of places) c behind

-- the same in a whole function
abbrev pub TellsApartIn : List Place → Routine ℕ → Bool → Type 0
TellsApartIn places f answer = IsTrue answer ↔ ((x : ℕ) → IsApartIn (place_of places) f x)

-- each variable that a command or a block names is one of so many
abbrev pub NamesVariables : ℕ → Code ℕ → Type 0
NamesVariables n = EachName (IsVariable n)

-- a function names no variables but its own
abbrev pub NamesItsOwn : Routine ℕ → Type 0
NamesItsOwn f = All (IsVariable f.variables) f.params × All (IsVariable f.variables) f.results × NamesVariables f.variables f.body
