use Rattle.std.proofs.Common.{rules}
use Rattle.lb_scan.proofs.Gaps.{inside_goes, inside_ends}
use Rattle.lb_scan.proofs.gap.after_comment.Goals as goal

pub returns-then-b-eq10-clause-skips : goal.returns-then-b-eq10-clause-skips
returns-then-b-eq10-clause-skips c = inside_ends c.args.bytes.now c.in-Some.b c.in-Some.after.now (rw c.in-Some.ensures at c.loop-b.invariant) (search rules)

pub loop-b-preserved : goal.loop-b-preserved
loop-b-preserved c = inside_goes c.args.bytes.now c.in-Some.b c.in-Some.after.now (rw c.in-Some.ensures at c.loop-b.invariant) (search rules)
