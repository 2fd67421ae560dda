use Rattle.std.proofs.Common.{◌≡◌, [], map, ap, subst, ◌∙◌, ◌∷◌, arith, length}
use Rattle.std.proofs.lemmas.Result.{err_from_is_err_and}
use Rattle.lb_sections.specs.Sections.{seen, part_at, section}
use Rattle.lb_system.specs.Views.{with_log}
use Rattle.lb_system.specs.Questions.{Frames, InForm, SaysFrames, Sections}
use Rattle.lb_system.specs.InternalAnswers.{LeavesForm}
use Rattle.lb_system.proofs.AskLemmas.{form_refused}
use Rattle.lb_system.proofs.LogBounds.{said_script}
use Rattle.lb_system.proofs.MachineAnswers.{crews_begins, lamp_made}
use Rattle.lb_system.proofs.SectionBounds.{section_within}
use Rattle.lb_system.proofs.machines.lamp_mode.Goals as goal

pub returns-in_err-list-clause-refused : goal.returns-in_err-list-clause-refused
returns-in_err-list-clause-refused g c =
    let p = err_from_is_err_and c.from_residual.result c.from_residual.ensures.1 in
    rw (p.1, p.2) (c.in_err-list.ensures.refused c.args.job.now (InForm Frames 0 ∷ []))

pub frames_of-requires : goal.frames_of-requires
frames_of-requires g c =
    let list = ap (map seen) c.deref.ensures.value ∙ c.in_ok-list.ensures.list in
    let same : seen c.section_at.result ≡ section 0 c.args.input.now = c.section_at.ensures ∙ ap (part_at 0) list in
    omega (arith, ap (λ s. s.line) same, ap (λ s. length s.text) same, section_within 0 c.args.input.now c.requires.short)

pub returns-in_err-frames-clause-refused : goal.returns-in_err-frames-clause-refused
returns-in_err-frames-clause-refused g c =
    let p = err_from_is_err_and c.from_residual-in_err-frames.result c.from_residual-in_err-frames.ensures.1 in
    let list = ap (map seen) c.deref.ensures.value ∙ c.in_ok-list.ensures.list in
    let same : seen c.section_at.result ≡ section 0 c.args.input.now = c.section_at.ensures ∙ ap (part_at 0) list in
    let left = subst (λ s. LeavesForm Frames s c.in_err-frames.field-0.0) same c.in_err-frames.ensures.refused in
    rw (p.1, p.2)
    (form_refused (Sections 1 ∷ []) [] Frames 0 c.args.job.now c.args.input.now c.in_err-frames.field-0.0 (c.in_ok-list.ensures.few, tt) left)

pub finished-requires-clause-frames : goal.finished-requires-clause-frames
finished-requires-clause-frames g c =
    let list = ap (map seen) c.deref.ensures.value ∙ c.in_ok-list.ensures.list in
    let same : seen c.section_at.result ≡ section 0 c.args.input.now = c.section_at.ensures ∙ ap (part_at 0) list in
    said_script (seen c.section_at.result) c.in_ok-frames.frames.items c.in_ok-frames.ensures.read

pub lamp_report-requires : goal.lamp_report-requires
lamp_report-requires g c =
    crews_begins c.lamp_keeps.ensures.lamp c.args.crew.now.workers c.args.job.now c.in_ok-image.image c.in_ok-frames.frames.items c.in_ok-machine.machine c.in_ok-image.ensures.compiled c.in_ok-machine.ensures

pub returns-clause-made : goal.returns-clause-made
returns-clause-made g c =
    let list = ap (map seen) c.deref.ensures.value ∙ c.in_ok-list.ensures.list in
    let same : seen c.section_at.result ≡ section 0 c.args.input.now = c.section_at.ensures ∙ ap (part_at 0) list in
    let said = subst (λ s. SaysFrames s c.in_ok-frames.frames.items) same c.in_ok-frames.ensures.read in
    let shown = c.with_log.ensures ∙ ap (λ log. with_log c.in_ok-report.report.items log c.in_ok-image.image) c.into_parts.ensures.log in
    lamp_made c.args.crew.now.workers c.args.job.now c.args.input.now c.in_ok-frames.frames.items c.in_ok-image.image c.in_ok-machine.machine c.in_ok-report.report.items c.with_log.result
    c.in_ok-list.ensures.few said c.in_ok-image.ensures.compiled c.in_ok-machine.ensures c.in_ok-report.ensures shown
