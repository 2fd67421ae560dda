-- What the code asks of a program, function by function.
use Rattle.std.specs.Prelude.{ℕ, ◌+◌, ◌≤◌, List, [], ◌∷◌}
use Rattle.lb_syntax.specs.declared.limits.TheConstants.{MOST_FRAME}
use Rattle.lb_flat.specs.declared.places.Place.{Place}
use Rattle.lb_flat.specs.Code.{Routine}
use Rattle.lb_flat.specs.Needs.{frame_need}
use Rattle.lb_emit_laws.specs.Frames.{frame_of}
use Rattle.lb_emit_laws.specs.Code.{routine_words}
use Rattle.lb_emit.specs.InternalEmit.{CallsFunctions, IsFunctionPart}

-- a function of a program of so many
pub record IsReady (count : ℕ) (f : Routine Place) : Type 0 where
  pub part : IsFunctionPart f.variables f
  pub functions : CallsFunctions count f.body
  pub frame : frame_need f ≤ MOST_FRAME

abbrev pub AreReady : ℕ → List (Routine Place) → Type 0
AreReady count [] = Unit {0}
AreReady count (f ∷ fs) = IsReady count f × AreReady count fs

-- the instructions of functions
abbrev pub all_words : List (Routine Place) → ℕ
all_words [] = 0
all_words (f ∷ fs) = routine_words (frame_of f) f + all_words fs
