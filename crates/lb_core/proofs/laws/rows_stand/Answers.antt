use Rattle.lb_core.proofs.Rows.{rows_stand}
use Rattle.lb_core.proofs.laws.rows_stand.Goals as goal

pub returns : goal.returns
returns c = rows_stand
