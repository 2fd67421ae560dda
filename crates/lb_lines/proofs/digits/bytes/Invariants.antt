use Rattle.std.proofs.Common.{length}
use Rattle.lb_lines.proofs.ByteLemmas.{AreBytesSoFar}
use Rattle.lb_lines.proofs.digits.bytes.Given as goal

-- the digits before the rest are the bytes
abbrev pub invariant-loop-pair : goal.invariant-loop-pair
invariant-loop-pair l = AreBytesSoFar l.digits l.rest l.bytes.items

abbrev pub decreases-loop-pair : goal.decreases-loop-pair
decreases-loop-pair l = length l.rest
