use Rattle.std.proofs.Common.{ap, ◌∙◌}
use Rattle.lb_core.specs.State.{CoreState, state_of}
use Rattle.lb_core.proofs.Rows.{program_kept, rows_stand}
use Rattle.lb_core.proofs.pipeline.Core.fire.Goals as goal

pub returns-clause-stands : goal.returns-clause-stands
returns-clause-stands c =
    rw (c.step.ensures.row, c.step.ensures.event) (rows_stand (state_of c.args.self.now) c.args.kind c.args.reply c.requires.enabled)

pub returns-clause-code : goal.returns-clause-code
returns-clause-code c =
    ap (λ (s : CoreState). s.code) c.step.ensures.row ∙ (program_kept (state_of c.args.self.now) c.args.kind c.args.reply).code

pub returns-clause-entry : goal.returns-clause-entry
returns-clause-entry c =
    ap (λ (s : CoreState). s.entry) c.step.ensures.row ∙ (program_kept (state_of c.args.self.now) c.args.kind c.args.reply).entry
