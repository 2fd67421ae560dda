use Rattle.lb_scan.proofs.Stuck.{Spells}
use Rattle.lb_scan.proofs.spelling.syntax_error_in.Given as goal

abbrev pub invariant-loop-i : goal.invariant-loop-i
invariant-loop-i l = Spells l.expected l.bytes l.i
