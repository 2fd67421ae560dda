use Rattle.lb_steps.proofs.RunLemmas.{run-add}
use Rattle.lb_isa.specs.Moves.{move}
use Rattle.lb_isa.specs.Runs.{start}
use Rattle.lb_isa.proofs.laws.runs_go_on.Goals as goal

pub returns : goal.returns
returns c = λ code entry replies m n. run-add (move code) m n (start code entry replies)
