use Rattle.lb_flat.proofs.ApartLemmas.{liveness_is_by_walks}
use Rattle.lb_flat.proofs.laws.liveness_is_by_walks.Goals as goal

pub returns : goal.returns
returns c = liveness_is_by_walks
