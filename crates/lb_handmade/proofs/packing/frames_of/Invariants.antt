use Rattle.std.proofs.Common.{◌≡◌, ◌≤◌, ◌++◌, drop}
use Rattle.std.specs.Prelude.{map}
use Rattle.std.specs.List.{AllByRecursion}
use Rattle.lb_syntax.specs.declared.limits.TheConstants.{MOST_FRAME}
use Rattle.lb_syntax.specs.Tree.{Procedure, procedure_of}
use Rattle.lb_syntax.specs.Needs.{frame_need}
use Rattle.lb_handmade.specs.Packed.{packed_frames}
use Rattle.lb_handmade.proofs.packing.frames_of.Given as goal

-- what is there and what is still to come is all, and the rest has small frames
abbrev pub invariant-loop-function : goal.invariant-loop-function
invariant-loop-function l = record {
  small : AllByRecursion (λ (f : Procedure). frame_need f ≤ MOST_FRAME) (map procedure_of (drop l.function-index l.functions));
  frames : l.frames ++ packed_frames (map procedure_of (drop l.function-index l.functions)) ≡ packed_frames (map procedure_of l.functions);
}
