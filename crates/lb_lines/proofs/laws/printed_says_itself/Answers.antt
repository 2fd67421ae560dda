use Rattle.lb_lines.proofs.PrintedLemmas.{trace_says_itself, log_says_itself}
use Rattle.lb_lines.proofs.laws.printed_says_itself.Goals as goal

pub returns-clause-trace : goal.returns-clause-trace
returns-clause-trace c = trace_says_itself

pub returns-clause-log : goal.returns-clause-log
returns-clause-log c = log_says_itself
