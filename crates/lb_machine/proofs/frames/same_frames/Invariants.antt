use Rattle.std.proofs.Common.{◌≡◌, take, length}
use Rattle.lb_machine.proofs.frames.same_frames.Given as goal

-- there are as many of both, and those so far are the same
abbrev pub invariant-loop-n : goal.invariant-loop-n
invariant-loop-n l = (length l.a ≡ length l.b) × (take l.n l.a ≡ take l.n l.b)
