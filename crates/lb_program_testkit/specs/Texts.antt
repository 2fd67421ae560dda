-- What programs of texts are.
use Rattle.std.specs.Prelude.{ℕ, List}
use Rattle.lb_syntax.specs.Names.{Text}
use Rattle.lb_syntax.specs.Tree.{Procedure}
use Rattle.lb_spelling.specs.Places.{IsAccepted}
use Rattle.lb_handmade.specs.Faults.{BreaksARule}
use Rattle.lb_flat.specs.Code.{Executable}
use Rattle.lb_flat.specs.Flattened.{HasSameRuns}

-- each program that the text is accepted as breaks a rule
abbrev pub IsNoProgram : Text → Type 0
IsNoProgram s = (p : List Procedure) → IsAccepted p s → BreaksARule p

-- a program that the text is accepted as has the same runs
abbrev pub IsFlatFormOf : Text → Executable ℕ → Type 0
IsFlatFormOf s flat = (p : List Procedure) × IsAccepted p s × HasSameRuns p flat
