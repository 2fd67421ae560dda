use Rattle.lb_gen.proofs.RulesKept.{all_large}
use Rattle.lb_gen.proofs.laws.all_are_large.Goals as goal

pub returns : goal.returns
returns c = all_large
