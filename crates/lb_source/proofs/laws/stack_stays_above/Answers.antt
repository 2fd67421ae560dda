use Rattle.lb_source.proofs.StackLemmas.{stack_stays_above}
use Rattle.lb_source.proofs.laws.stack_stays_above.Goals as goal

pub returns : goal.returns
returns c = stack_stays_above
