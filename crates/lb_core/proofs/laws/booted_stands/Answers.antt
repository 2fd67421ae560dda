use Rattle.lb_core.proofs.FrontRows.{booted_stands}
use Rattle.lb_core.proofs.laws.booted_stands.Goals as goal

pub returns : goal.returns
returns c = booted_stands
