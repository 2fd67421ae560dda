use Rattle.lb_core.proofs.PotentialLemmas.{rows_fit}
use Rattle.lb_core.proofs.laws.rows_fit.Goals as goal

pub returns : goal.returns
returns c = rows_fit
