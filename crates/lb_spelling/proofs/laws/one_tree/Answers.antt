use Rattle.lb_spelling.proofs.Whole.{one_tree}
use Rattle.lb_spelling.proofs.laws.one_tree.Goals as goal

pub returns : goal.returns
returns c = one_tree
