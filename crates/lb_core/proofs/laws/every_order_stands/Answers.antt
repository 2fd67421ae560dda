use Rattle.lb_core.proofs.ScheduleLemmas.{every_order_stands}
use Rattle.lb_core.proofs.laws.every_order_stands.Goals as goal

pub returns : goal.returns
returns c = every_order_stands
