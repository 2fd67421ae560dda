use Rattle.lb_syntax.proofs.StackLemmas.{one_stack_need}
use Rattle.lb_syntax.proofs.laws.one_stack_need.Goals as goal

pub returns : goal.returns
returns c = one_stack_need
