use Rattle.lb_core.proofs.PotentialLemmas.{potential_is_bounded}
use Rattle.lb_core.proofs.laws.potential_is_bounded.Goals as goal

pub returns : goal.returns
returns c = potential_is_bounded
