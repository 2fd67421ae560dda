use Rattle.lb_machine.proofs.LogLemmas.{logs_stand}
use Rattle.lb_machine.proofs.laws.logs_stand.Goals as goal

pub returns : goal.returns
returns c = logs_stand
