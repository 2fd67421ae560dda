use Rattle.std.proofs.Common.{◌≡◌, List, map, sym, ap, subst, ◌∙◌, ◌∷◌, ◌++◌, None, arith, length}
use Rattle.std.proofs.lemmas.Result.{err_from_is_err_and}
use Rattle.lb_syntax.specs.Tree.{program_of}
use Rattle.lb_sections.specs.Sections.{seen, part_at, section}
use Rattle.lb_words.specs.declared.job.Job.{Job}
use Rattle.lb_system.specs.Questions.{Question, InForm, Frames, SaysFrames, Sections, checked}
use Rattle.lb_system.specs.InternalAnswers.{IsRefusalOf, LeavesForm, case_of}
use Rattle.lb_system.proofs.AskLemmas.{checked_holds, form_refused}
use Rattle.lb_system.proofs.SectionBounds.{section_within}
use Rattle.lb_system.proofs.source.open_framed.Goals as goal

pub frames_of-requires : goal.frames_of-requires
frames_of-requires c =
    let list = ap (map seen) c.deref.ensures.value ∙ c.in_ok-program.ensures.list in
    let same : seen c.section_at.result ≡ section 1 c.args.input.now = c.section_at.ensures ∙ ap (part_at 1) list in
    omega (arith, ap (λ s. s.line) same, ap (λ s. length s.text) same, section_within 1 c.args.input.now c.requires.short)

pub returns-in_err-program-clause-refused : goal.returns-in_err-program-clause-refused
returns-in_err-program-clause-refused c =
    let p = err_from_is_err_and c.from_residual.result c.from_residual.ensures.1 in
    rw (p.1) (subst (λ r. (job : Job) (qs : List Question) → IsRefusalOf (Sections c.args.most ∷ (checked ++ InForm Frames 1 ∷ qs)) job c.args.input.now r) (sym p.2)
    (λ job qs. c.in_err-program.ensures.refused job (InForm Frames 1 ∷ qs)))

pub returns-clause-frames : goal.returns-clause-frames
returns-clause-frames c =
    let list = ap (map seen) c.deref.ensures.value ∙ c.in_ok-program.ensures.list in
    let same : seen c.section_at.result ≡ section 1 c.args.input.now = c.section_at.ensures ∙ ap (part_at 1) list in
    subst (λ s. SaysFrames s c.in_ok-frames.frames.items) same c.in_ok-frames.ensures.read

pub returns-in_err-frames-clause-refused : goal.returns-in_err-frames-clause-refused
returns-in_err-frames-clause-refused c =
    let p = err_from_is_err_and c.from_residual-in_err-frames.result c.from_residual-in_err-frames.ensures.1 in
    rw (p.1) (subst (λ r. (job : Job) (qs : List Question) → IsRefusalOf (Sections c.args.most ∷ (checked ++ InForm Frames 1 ∷ qs)) job c.args.input.now r) (sym p.2) (λ job qs.
    let list = ap (map seen) c.deref.ensures.value ∙ c.in_ok-program.ensures.list in
    let same : seen c.section_at.result ≡ section 1 c.args.input.now = c.section_at.ensures ∙ ap (part_at 1) list in
    let left = subst (λ s. LeavesForm Frames s c.in_err-frames.field-0.0) same c.in_err-frames.ensures.refused in
    let all = checked_holds (case_of job c.args.input.now None) c.args.most (program_of c.in_ok-program.program) c.in_ok-program.ensures.opened c.in_ok-program.ensures.rules in
    form_refused (Sections c.args.most ∷ checked) qs Frames 1 job c.args.input.now c.in_err-frames.field-0.0 all left))
