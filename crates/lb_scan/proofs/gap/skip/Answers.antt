use Rattle.lb_scan.proofs.Gaps.{skips_more}
use Rattle.lb_scan.proofs.gap.skip.Goals as goal

pub loop-after-preserved : goal.loop-after-preserved
loop-after-preserved c = skips_more c.args.bytes.now c.loop-after.rest.now c.in-Some.after.now c.loop-after.invariant c.in-Some.ensures.skips
