use Rattle.std.proofs.Common.{length}
use Rattle.lb_spelling.specs.Tokens.{Outside}
use Rattle.lb_scan.specs.InternalScanning.{Skips}
use Rattle.lb_scan.proofs.gap.skip.Given as goal

abbrev pub invariant-loop-after : goal.invariant-loop-after
invariant-loop-after l = Skips Outside l.bytes l.rest

abbrev pub decreases-loop-after : goal.decreases-loop-after
decreases-loop-after l = length l.rest
