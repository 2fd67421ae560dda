use Rattle.std.proofs.Common.{arith}
use Rattle.lb_isa.specs.Runs.{start}
use Rattle.lb_isa.proofs.RunLemmas.{run_fewer}
use Rattle.lb_isa.proofs.laws.fewer_stands_still.Goals as goal

pub returns : goal.returns
returns c = λ code entry replies n few. run_fewer code n (start code entry replies) (λ same. few (omega (arith, same)))
