use Rattle.lb_machine.proofs.LogLemmas.{logs_fit}
use Rattle.lb_machine.proofs.laws.logs_fit.Goals as goal

pub returns : goal.returns
returns c = logs_fit
