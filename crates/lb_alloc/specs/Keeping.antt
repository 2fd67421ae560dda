-- What a program keeps when its variables are kept in accepted places.
use Rattle.std.specs.Prelude.{◌≡◌, ◌≢◌, ℕ, List, ◌∷◌, ◌++◌, Some, slice_get, IsTrue}
use Rattle.lb_syntax.specs.declared.layout.Layout.{Layout}
use Rattle.lb_source.specs.Defined.{IsDefined}
use Rattle.lb_flat.specs.declared.places.Place.{Place}
use Rattle.lb_flat.specs.declared.places.Places.{Places}
use Rattle.lb_flat.specs.declared.flat.FlatProgram.{FlatProgram}
use Rattle.lb_flat.specs.Code.{Plain, Call, Routine}
use Rattle.lb_flat.specs.Flat.{flat_executable}
use Rattle.lb_flat.specs.Cells.{Cells}
use Rattle.lb_flat.specs.Run.{World, Goes, Caller, run_with}
use Rattle.lb_flat.specs.Whole.{flat_run, located_run}
use Rattle.lb_flat.specs.Located.{lists_of, located_at}
use Rattle.lb_flat.specs.Accepted.{AreAllAccepted}
use Rattle.lb_flat.specs.Walks.{Step, step, IsWalkOf, among, is_read_first}

-- the places are accepted for each function of the program, and there are places for no more
abbrev pub IsAccepted : FlatProgram → Places → Type 0
IsAccepted flat places = AreAllAccepted (flat_executable flat).routines (lists_of places)

-- with its variables in these places the program has the same trace and end, if it does nothing undefined
abbrev pub KeepsRuns : FlatProgram → Places → Type 0
KeepsRuns flat places =
    let p = flat_executable flat in
    (layout : Layout) (fuel : ℕ) (replies : List ℕ) → IsDefined (flat_run p layout fuel replies).end
    → located_run (lists_of places) p layout fuel replies ≡ flat_run p layout fuel replies

-- a variable keeps its value across a call with these arguments and targets: no target has its place, and whichever function is
-- called, whatever it does and gives, its cell holds after the call what it held before. The function's own cells are others: it gets
-- values, and gives values
pub record KeepsItsValue (place : ℕ → Place) (arguments targets : List ℕ) (x : ℕ) : Type 0 where
  pub apart : (target : ℕ) → IsTrue (among targets target) → place target ≢ place x
  pub value : (call : Caller) (function turns : ℕ) (offsets : List ℕ) (before after : Cells) (w u : World)
      → run_with place call turns offsets (Plain (Call function) arguments targets) before w ≡ Goes after u
      → after (place x) ≡ before (place x)

-- a variable lives across a call if some walk through its function goes on from the call so that it is read before any setting of it,
-- and it is no target of the call; each such variable keeps its value
abbrev pub KeepsInRoutine : (ℕ → Place) → Routine ℕ → Type 0
KeepsInRoutine place f =
    (past future : List Step) (arguments targets : List ℕ) (x : ℕ) → IsWalkOf f (past ++ step arguments targets ∷ future)
    → IsTrue (is_read_first x future) → ¬ (IsTrue (among targets x))
    → KeepsItsValue place arguments targets x

-- the same in each function of the program
abbrev pub KeepsAcrossCalls : FlatProgram → Places → Type 0
KeepsAcrossCalls flat places =
    (k : ℕ) (f : Routine ℕ) → slice_get (flat_executable flat).routines k ≡ Some f → KeepsInRoutine (located_at (lists_of places) k) f
