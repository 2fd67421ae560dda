use Rattle.lb_core.proofs.Rows.{never_stuck}
use Rattle.lb_core.proofs.laws.never_stuck.Goals as goal

pub returns : goal.returns
returns c = never_stuck
