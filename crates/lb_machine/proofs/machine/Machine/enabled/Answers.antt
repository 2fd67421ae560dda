use Rattle.std.proofs.Common.{◌∙◌}
use Rattle.lb_machine.proofs.MachineLemmas.{enabled_after_log}
use Rattle.lb_machine.proofs.machine.Machine.enabled.Goals as goal

pub returns-clause-log : goal.returns-clause-log
returns-clause-log c = rw (← c.self.view_is) (c.enabled.ensures ∙ enabled_after_log _ c.args.kind c.self.invariant.replay)
