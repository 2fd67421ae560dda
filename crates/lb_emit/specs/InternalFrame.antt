-- Frames as the laws have them.
use Rattle.std.specs.Prelude.{ℕ, Bool, true, false, List, [], ◌∷◌}
use Rattle.lb_flat.specs.declared.places.Place.{Place}
use Rattle.lb_flat.specs.Code.{Routine}
use Rattle.lb_emit_laws.specs.Frames as laws
use Rattle.lb_emit_laws.specs.Frames.{frame_of, offsets_of}
use Rattle.lb_emit.specs.declared.frame.Frame.{Frame}

-- the frame that the code of a function is written by
abbrev pub frame_in : Frame → laws.Frame
frame_in f = record { saved = f.saved; slots = f.slots; size = f.layout.size }

-- a frame and the offsets of its blocks
pub record Framed : Type 0 where
  pub frame : laws.Frame
  pub offsets : List ℕ

abbrev pub framed_in : Frame → Framed
framed_in f = record { frame = frame_in f; offsets = f.layout.sites }

-- those that a function has
abbrev pub framed_of : Routine Place → Framed
framed_of f = record { frame = frame_of f; offsets = offsets_of f }

-- there are some
abbrev pub is_any : List ℕ → Bool
is_any [] = false
is_any (g ∷ gs) = true

-- one register, or none
abbrev pub one_if : Bool → ℕ → List ℕ
one_if true r = r ∷ []
one_if false r = []
