use Rattle.lb_spelling.proofs.Whole.{one_fault}
use Rattle.lb_spelling.proofs.laws.one_fault.Goals as goal

pub returns : goal.returns
returns c = one_fault
