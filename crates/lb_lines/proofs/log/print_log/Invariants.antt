use Rattle.std.proofs.Common.{length}
use Rattle.lb_lines.proofs.LogLemmas.{IsPrintedSoFar}
use Rattle.lb_lines.proofs.log.print_log.Given as goal

-- the log before the rest is printed in full lines
abbrev pub invariant-loop-rest : goal.invariant-loop-rest
invariant-loop-rest l = IsPrintedSoFar l.log l.rest l.text.items

abbrev pub decreases-loop-rest : goal.decreases-loop-rest
decreases-loop-rest l = length l.rest
