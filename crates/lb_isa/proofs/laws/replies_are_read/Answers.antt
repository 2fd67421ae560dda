use Rattle.std.proofs.Common.{◌≡◌, ◌++◌, refl, ◌∙◌}
use Rattle.lb_trace.specs.Trace.{reply_values}
use Rattle.lb_steps.proofs.GrowthLemmas.{run-keeps}
use Rattle.lb_isa.specs.State.{RunState}
use Rattle.lb_isa.specs.Moves.{move}
use Rattle.lb_isa.specs.Runs.{start}
use Rattle.lb_isa.proofs.MoveLemmas.{move_reads}
use Rattle.lb_isa.proofs.laws.replies_are_read.Goals as goal

pub returns : goal.returns
returns c = λ code entry replies n.
    run-keeps (move code) (λ (s : RunState). reply_values s.trace ++ s.replies ≡ replies) (λ s t h same. move_reads code s t h ∙ same)
    n (start code entry replies) refl
