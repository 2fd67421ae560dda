use Rattle.std.proofs.Common.{◌∙◌, List, subst}
use Rattle.lb_trace.specs.declared.Entry.{Entry}
use Rattle.lb_machine.specs.Logs.{IsFirstRefused}
use Rattle.lb_machine.specs.Refusals.{FixedContent}
use Rattle.lb_machine.proofs.MachineLemmas.{never_refused, same_state}
use Rattle.lb_machine.proofs.machine.Machine.copy.Goals as goal

pub returns-clause-state : goal.returns-clause-state
returns-clause-state c =
    same_state c.fire_all.new.self c.args.self.now c.fire_all.ensures.replay c.log-entries.ensures.replay
    (c.fire_all.ensures.same ∙ c.in_ok-machine.ensures.0) (c.in-Ok.ensures.all ∙ c.log-entries.ensures.value)

pub unreachable-requires : goal.unreachable-requires
unreachable-requires c =
    never_refused c.args.self.now.fixed.job c.args.self.now.log c.in-Err.field-0.at c.log-entries.ensures.replay.legal
    (subst (λ (l : List Entry). IsFirstRefused c.args.self.now.fixed.job l c.in-Err.field-0.at) c.log-entries.ensures.value
    (subst (λ (f : FixedContent). IsFirstRefused f.job c.log-entries.result.now c.in-Err.field-0.at) c.in_ok-machine.ensures.0 c.in-Err.ensures.refused))
