use Rattle.std.proofs.Common.{◌≡◌, ◌++◌, drop, map}
use Rattle.lb_emit.specs.declared.frame.Frame.{Frame}
use Rattle.lb_emit.proofs.program.layout_of.Given as goal

-- the layouts so far, and those of the frames that are left, are all
abbrev pub invariant-loop-frame : goal.invariant-loop-frame
invariant-loop-frame l =
    l.layouts ++ map (λ (frame : Frame). frame.layout) (drop l.frame-index l.frames) ≡ map (λ (frame : Frame). frame.layout) l.frames
