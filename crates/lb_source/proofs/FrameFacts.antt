-- The frames of a valid layout fit.
use Rattle.std.proofs.Common.{◌≡◌, ℕ, suc, ◌+◌, ◌<◌, ◌≤◌, List, [], ◌∷◌, length, arith}
use Rattle.std.specs.Prelude.{slice_index, All}
use Rattle.std.proofs.lemmas.List.Elements.{All-head, All-tail}
use Rattle.lb_syntax.specs.declared.limits.TheConstants.{MOST_FRAME}
use Rattle.lb_syntax.specs.Tree.{Procedure}
use Rattle.lb_syntax.specs.Needs.{sites, frame_need}
use Rattle.lb_syntax.specs.Layouts.{IsFrameOf, AreFramesOf}
use Rattle.lb_syntax.specs.declared.layout.FrameLayout.{FrameLayout}
use Rattle.lb_source.specs.InternalMachine.{FrameFits, FramesFit}
use Rattle.lb_source.proofs.BlockFacts.{BlocksIn, blocks_of}

-- by each place
blocks_by_place : (room : ℕ) (os ns : List ℕ) → length os ≡ length ns → ((k : ℕ) → k < length ns → slice_index os k + slice_index ns k ≤ room) → BlocksIn room os ns
blocks_by_place room os [] e h = tt
blocks_by_place room [] (n ∷ ns) e h = absurd (omega arith)
blocks_by_place room (o ∷ os) (n ∷ ns) e h = (h 0 (omega arith), blocks_by_place room os ns (omega arith) (λ k lt. h (suc k) (omega arith)))

frame_fits : (frame : FrameLayout) (f : Procedure) → IsFrameOf frame f → frame_need f ≤ MOST_FRAME → FrameFits frame f.body
frame_fits frame f h need = record {
  small = let a = h.small in omega (arith, a);
  inside = blocks_of frame.size frame.sites f.body (blocks_by_place frame.size frame.sites (sites f.body) h.offset_each h.inside);
}

pub frames_fit : (frames : List FrameLayout) (fs : List Procedure) → AreFramesOf frames fs → All (λ f. frame_need f ≤ MOST_FRAME) fs → FramesFit fs frames
frames_fit [] [] h need = tt
frames_fit [] (f ∷ fs) h need = absurd h
frames_fit (frame ∷ frames) [] h need = absurd h
frames_fit (frame ∷ frames) (f ∷ fs) h need =
    (frame_fits frame f h.0 (All-head (λ g. frame_need g ≤ MOST_FRAME) f fs need), frames_fit frames fs h.1 (All-tail (λ g. frame_need g ≤ MOST_FRAME) f fs need))
