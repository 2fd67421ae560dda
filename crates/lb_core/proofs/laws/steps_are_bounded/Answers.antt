use Rattle.lb_core.proofs.ScheduleLemmas.{steps_are_bounded}
use Rattle.lb_core.proofs.laws.steps_are_bounded.Goals as goal

pub returns : goal.returns
returns c = steps_are_bounded
