-- Which places are accepted for the variables of a flat program.
use Rattle.std.specs.Prelude.{◌≡◌, ◌≢◌, ℕ, ◌<◌, List, [], ◌∷◌, ◌++◌, length, All, IsTrue}
use Rattle.lb_flat.specs.declared.places.Place.{Place}
use Rattle.lb_flat.specs.declared.places.Place.TheVariants.{Register, Slot}
use Rattle.lb_flat.specs.Code.{Routine}
use Rattle.lb_flat.specs.Registers.{IsVariableRegister}
use Rattle.lb_flat.specs.Located.{place_of}
use Rattle.lb_flat.specs.Walks.{Step, IsWalkOf, among, is_read_first}

-- a place that a variable of a function with so many variables may have: a register for variables, or a slot that is numbered
-- below them
abbrev pub MayHold : ℕ → Place → Type 0
MayHold n (Register r) = IsVariableRegister r
MayHold n (Slot s) = s < n

-- whenever a command or the start sets u, no other variable x that is live after this has u's place. A variable is live there if some
-- walk goes on from there so that it is read before any setting of it
abbrev pub KeepsApart : (ℕ → Place) → Routine ℕ → Type 0
KeepsApart place f =
    (past future : List Step) (s : Step) (u x : ℕ) → IsWalkOf f (past ++ s ∷ future)
    → IsTrue (among s.sets u) → IsTrue (is_read_first x future) → u ≢ x → place u ≢ place x

-- places for a function's variables: one for each, and apart
pub record AreAccepted (f : Routine ℕ) (places : List Place) : Type 0 where
  pub each : length places ≡ f.variables
  pub good : All (MayHold f.variables) places
  pub apart : KeepsApart (place_of places) f

-- the same for each function, and for no more
abbrev pub AreAllAccepted : List (Routine ℕ) → List (List Place) → Type 0
AreAllAccepted [] [] = Unit {0}
AreAllAccepted (f ∷ fs) (places ∷ lists) = AreAccepted f places × AreAllAccepted fs lists
AreAllAccepted _ _ = ⊥
