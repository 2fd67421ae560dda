use Rattle.lb_source.proofs.Bounds.{any_bound_serves}
use Rattle.lb_source.proofs.laws.any_bound_serves.Goals as goal

pub returns : goal.returns
returns c = any_bound_serves
