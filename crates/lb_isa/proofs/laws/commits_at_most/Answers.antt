use Rattle.std.proofs.Common.{arith}
use Rattle.lb_isa.specs.Runs.{start}
use Rattle.lb_isa.proofs.RunLemmas.{run_at_most}
use Rattle.lb_isa.proofs.laws.commits_at_most.Goals as goal

pub returns : goal.returns
returns c = λ code entry replies n. let most = run_at_most code n (start code entry replies) in omega (arith, most)
