use Rattle.lb_steps.proofs.GrowthLemmas.{run-longer_extends}
use Rattle.lb_steps.proofs.longer_run_extends.Goals as goal

pub returns : goal.returns
returns g c = run-longer_extends
