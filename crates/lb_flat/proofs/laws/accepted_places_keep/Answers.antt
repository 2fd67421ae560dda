use Rattle.lb_flat.proofs.Keep.{accepted_places_keep}
use Rattle.lb_flat.proofs.laws.accepted_places_keep.Goals as goal

pub returns : goal.returns
returns c = accepted_places_keep
