use Rattle.lb_steps.proofs.RunLemmas.{run-still_after}
use Rattle.lb_steps.proofs.stands_still_after.Goals as goal

pub returns : goal.returns
returns g c = run-still_after
