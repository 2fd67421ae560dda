use Rattle.std.proofs.Common.{◌≡◌, refl}
use Rattle.lb_steps.proofs.GrowthLemmas.{run-keeps}
use Rattle.lb_isa.specs.State.{RunState}
use Rattle.lb_isa.specs.Moves.{move}
use Rattle.lb_isa.specs.Runs.{start}
use Rattle.lb_isa.proofs.MoveLemmas.{move_zero}
use Rattle.lb_isa.proofs.laws.zero_register_stays.Goals as goal

pub returns : goal.returns
returns c = λ code entry replies n.
    run-keeps (move code) (λ (s : RunState). s.processor.registers 0 ≡ 0) (move_zero code) n (start code entry replies) refl
