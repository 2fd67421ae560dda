use Rattle.lb_syntax.proofs.SetLemmas.{distinct-size}
use Rattle.lb_syntax.proofs.laws.distinct_is_set_size.Goals as goal

pub returns : goal.returns
returns c = distinct-size
