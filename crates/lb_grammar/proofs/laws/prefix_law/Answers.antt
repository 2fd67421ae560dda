use Rattle.lb_grammar.proofs.EndLemmas.{prefix_law}
use Rattle.lb_grammar.proofs.laws.prefix_law.Goals as goal

pub returns : goal.returns
returns c = prefix_law
