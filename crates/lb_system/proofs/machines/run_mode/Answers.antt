use Rattle.std.proofs.Common.{[], ap, ◌∙◌}
use Rattle.std.proofs.lemmas.Result.{err_from_is_err_and}
use Rattle.lb_syntax.specs.Tree.{program_of}
use Rattle.lb_sections.specs.Sections.{section}
use Rattle.lb_system.specs.Views.{with_log}
use Rattle.lb_system.proofs.LogBounds.{said_script}
use Rattle.lb_system.proofs.MachineAnswers.{run_made}
use Rattle.lb_system.proofs.machines.run_mode.Goals as goal

pub returns-in_err-program-clause-refused : goal.returns-in_err-program-clause-refused
returns-in_err-program-clause-refused g c =
    let p = err_from_is_err_and c.from_residual.result c.from_residual.ensures.1 in
    rw (p.1, p.2) (c.in_err-program.ensures.refused c.args.job.now [])

pub finished-requires-clause-frames : goal.finished-requires-clause-frames
finished-requires-clause-frames g c = said_script (section 1 c.args.input.now) c.in_ok-program.frames.items c.in_ok-program.ensures.frames

pub returns-clause-made : goal.returns-clause-made
returns-clause-made g c =
    let shown = c.with_log.ensures ∙ ap (λ log. with_log c.in_ok-report.report.items log c.in_ok-image.image) c.into_parts.ensures.log in
    run_made c.args.crew.now.workers c.args.job.now c.args.input.now (program_of c.in_ok-program.program) c.in_ok-program.frames.items c.in_ok-image.image c.in_ok-machine.machine c.in_ok-report.report.items
    c.with_log.result c.in_ok-program.ensures.opened c.in_ok-program.ensures.frames c.in_ok-image.ensures c.in_ok-machine.ensures c.in_ok-report.ensures shown
