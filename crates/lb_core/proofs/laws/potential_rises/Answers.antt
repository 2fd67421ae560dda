use Rattle.lb_core.proofs.PotentialLemmas.{potential_rises}
use Rattle.lb_core.proofs.laws.potential_rises.Goals as goal

pub returns : goal.returns
returns c = potential_rises
