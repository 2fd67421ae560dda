use Rattle.std.proofs.Common.{◌≡◌, ◌++◌, drop, length, map}
use Rattle.lb_flat.specs.Placed.{placed_routine}
use Rattle.lb_emit.specs.InternalFrame.{framed_in, framed_of}
use Rattle.lb_emit.specs.InternalProgram.{AreReady}
use Rattle.lb_emit.proofs.program.frames_of.Given as goal

-- the frames so far, and those of the functions that are left, are all
abbrev pub invariant-loop-f : goal.invariant-loop-f
invariant-loop-f l =
    let left = map placed_routine (drop l.f-index l.functions) in
    record {
      ready : AreReady (length l.functions) left;
      frames : map framed_in l.frames ++ map framed_of left ≡ map framed_of (map placed_routine l.functions);
    }
