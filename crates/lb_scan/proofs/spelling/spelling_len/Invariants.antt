use Rattle.std.proofs.Common.{◌-◌}
use Rattle.lb_scan.proofs.Spellings.{JoinedTo}
use Rattle.lb_scan.proofs.spelling.spelling_len.Given as goal

abbrev pub invariant-loop-len : goal.invariant-loop-len
invariant-loop-len l = JoinedTo l.bytes l.len

abbrev pub decreases-loop-len : goal.decreases-loop-len
decreases-loop-len l = l.end - l.len
