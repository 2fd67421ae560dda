use Rattle.lb_steps.proofs.RunLemmas.{run-still}
use Rattle.lb_steps.proofs.stands_still.Goals as goal

pub returns : goal.returns
returns g c = run-still
