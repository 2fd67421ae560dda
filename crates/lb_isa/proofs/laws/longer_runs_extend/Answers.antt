use Rattle.lb_steps.proofs.GrowthLemmas.{run-longer_extends}
use Rattle.lb_isa.specs.State.{RunState}
use Rattle.lb_isa.specs.Moves.{move}
use Rattle.lb_isa.specs.Runs.{start}
use Rattle.lb_isa.proofs.MoveLemmas.{move_extends}
use Rattle.lb_isa.proofs.laws.longer_runs_extend.Goals as goal

pub returns : goal.returns
returns c = λ code entry replies m n most.
    run-longer_extends (move code) (λ (s : RunState). s.trace) (move_extends code) m n (start code entry replies) most
