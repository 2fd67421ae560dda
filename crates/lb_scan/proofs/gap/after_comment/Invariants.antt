use Rattle.std.proofs.Common.{length}
use Rattle.lb_scan.proofs.Gaps.{InsideFrom}
use Rattle.lb_scan.proofs.gap.after_comment.Given as goal

abbrev pub invariant-loop-b : goal.invariant-loop-b
invariant-loop-b l = InsideFrom l.bytes l.rest

abbrev pub decreases-loop-b : goal.decreases-loop-b
decreases-loop-b l = length l.rest
