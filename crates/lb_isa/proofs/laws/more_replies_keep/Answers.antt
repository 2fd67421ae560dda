use Rattle.std.proofs.Common.{arith}
use Rattle.lb_isa.specs.Runs.{start}
use Rattle.lb_isa.proofs.RunLemmas.{run_more}
use Rattle.lb_isa.proofs.laws.more_replies_keep.Goals as goal

pub returns : goal.returns
returns c = λ code entry replies more n whole. run_more more code n (start code entry replies) (omega (arith, whole))
