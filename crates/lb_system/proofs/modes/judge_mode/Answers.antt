use Rattle.std.proofs.Common.{◌≡◌, [], map, ap, subst, ◌∙◌, ◌∷◌, arith, length}
use Rattle.std.proofs.lemmas.Result.{err_from_is_err_and}
use Rattle.lb_sections.specs.Sections.{seen, part_at, section}
use Rattle.lb_system.specs.MachineReport.{IsVerdict}
use Rattle.lb_system.specs.Questions.{Events, InForm, SaysEvents, Sections}
use Rattle.lb_system.specs.InternalAnswers.{LeavesForm}
use Rattle.lb_system.proofs.AskLemmas.{form_refused, judge_made}
use Rattle.lb_system.proofs.SectionBounds.{section_within}
use Rattle.lb_system.proofs.modes.judge_mode.Goals as goal

pub returns-in_err-list-clause-refused : goal.returns-in_err-list-clause-refused
returns-in_err-list-clause-refused c =
    let p = err_from_is_err_and c.from_residual.result c.from_residual.ensures.1 in
    rw (p.1, p.2) (c.in_err-list.ensures.refused c.args.job.now (InForm Events 0 ∷ []))

pub events_of-requires : goal.events_of-requires
events_of-requires c =
    let list = ap (map seen) c.deref.ensures.value ∙ c.in_ok-list.ensures.list in
    let same : seen c.section_at.result ≡ section 0 c.args.input.now = c.section_at.ensures ∙ ap (part_at 0) list in
    omega (arith, ap (λ s. s.line) same, ap (λ s. length s.text) same, section_within 0 c.args.input.now c.requires)

pub returns-in_err-events-clause-refused : goal.returns-in_err-events-clause-refused
returns-in_err-events-clause-refused c =
    let p = err_from_is_err_and c.from_residual-in_err-events.result c.from_residual-in_err-events.ensures.1 in
    let list = ap (map seen) c.deref.ensures.value ∙ c.in_ok-list.ensures.list in
    let same : seen c.section_at.result ≡ section 0 c.args.input.now = c.section_at.ensures ∙ ap (part_at 0) list in
    let left = subst (λ s. LeavesForm Events s c.in_err-events.field-0.0) same c.in_err-events.ensures.refused in
    rw (p.1, p.2)
    (form_refused (Sections 1 ∷ []) [] Events 0 c.args.job.now c.args.input.now c.in_err-events.field-0.0 (c.in_ok-list.ensures.few, tt) left)

pub returns-clause-made : goal.returns-clause-made
returns-clause-made c =
    let list = ap (map seen) c.deref.ensures.value ∙ c.in_ok-list.ensures.list in
    let same : seen c.section_at.result ≡ section 0 c.args.input.now = c.section_at.ensures ∙ ap (part_at 0) list in
    let said = subst (λ s. SaysEvents s c.in_ok-events.events.items) same c.in_ok-events.ensures.read in
    let it : IsVerdict c.deref-2.result.now c.judge.result = record { prefix = c.judge.ensures.prefix; rounds = c.judge.ensures.rounds; place = c.judge.ensures.place } in
    let verdict = subst (λ events. IsVerdict events c.judge.result) c.deref-2.ensures.value it in
    judge_made c.args.job.now c.args.input.now c.in_ok-events.events.items c.judge.result c.in_ok-report.report.items c.of_report.result c.in_ok-list.ensures.few said verdict
    c.in_ok-report.ensures c.of_report.ensures
