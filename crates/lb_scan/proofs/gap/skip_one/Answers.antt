use Rattle.std.proofs.Common.{rules}
use Rattle.lb_scan.proofs.Gaps.{skips_blank, skips_comment_at}
use Rattle.lb_scan.proofs.gap.skip_one.Goals as goal

pub returns-then-is_blank-clause-skips : goal.returns-then-is_blank-clause-skips
returns-then-is_blank-clause-skips c = rw c.in_ok-b.ensures (skips_blank c.in_ok-b.b c.in_ok-b.rest.now (search rules))

pub returns-clause-skips : goal.returns-clause-skips
returns-clause-skips c = rw (c.in_ok-b.ensures, c.in_ok-c.ensures) (skips_comment_at c.in_ok-b.b c.in_ok-c.c c.in_ok-c.rest.now c.after_comment.result.now (search rules) (search rules) c.after_comment.ensures.skips)
