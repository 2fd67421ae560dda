use Rattle.lb_grammar.proofs.RoundLemmas.{rounds_law}
use Rattle.lb_grammar.proofs.laws.rounds_law.Goals as goal

pub returns : goal.returns
returns c = rounds_law
