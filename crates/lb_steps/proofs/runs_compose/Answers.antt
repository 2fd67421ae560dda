use Rattle.lb_steps.proofs.RunLemmas.{run-add}
use Rattle.lb_steps.proofs.runs_compose.Goals as goal

pub returns : goal.returns
returns g c = run-add
