use Rattle.lb_steps.proofs.RunLemmas.{run-still_after}
use Rattle.lb_isa.specs.Moves.{move}
use Rattle.lb_isa.specs.Runs.{isa, start}
use Rattle.lb_isa.proofs.MoveLemmas.{halted_stays}
use Rattle.lb_isa.proofs.laws.halted_stands_still.Goals as goal

pub returns : goal.returns
returns c = λ code entry replies m n cause halted most.
    run-still_after (move code) m n (start code entry replies) (halted_stays cause code (isa code entry replies m) halted) most
