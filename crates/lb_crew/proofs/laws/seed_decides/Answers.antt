use Rattle.lb_crew.proofs.SeedLemmas.{seed_decides}
use Rattle.lb_crew.proofs.laws.seed_decides.Goals as goal

pub returns : goal.returns
returns c = seed_decides
