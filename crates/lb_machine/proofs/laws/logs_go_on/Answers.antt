use Rattle.lb_machine.proofs.LogLemmas.{logs_go_on}
use Rattle.lb_machine.proofs.laws.logs_go_on.Goals as goal

pub returns : goal.returns
returns c = logs_go_on
