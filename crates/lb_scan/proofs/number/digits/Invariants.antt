use Rattle.std.proofs.Common.{length}
use Rattle.lb_scan.proofs.Numbers.{DigitsTo}
use Rattle.lb_scan.proofs.number.digits.Given as goal

abbrev pub invariant-loop-b : goal.invariant-loop-b
invariant-loop-b l = DigitsTo l.radix l.bytes l.value l.rest

abbrev pub decreases-loop-b : goal.decreases-loop-b
decreases-loop-b l = length l.rest
