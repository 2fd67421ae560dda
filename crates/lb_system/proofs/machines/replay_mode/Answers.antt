use Rattle.std.proofs.Common.{◌≡◌, [], map, sym, ap, subst, ◌∙◌, ◌∷◌, ◌++◌, None, arith, length}
use Rattle.std.proofs.lemmas.Result.{err_from_is_err_and}
use Rattle.lb_syntax.specs.Tree.{program_of}
use Rattle.lb_sections.specs.Sections.{seen, part_at, section}
use Rattle.lb_correctness.specs.Machines.{job_on}
use Rattle.lb_machine.specs.Logs.{HaveWorkers, IsLegal}
use Rattle.lb_machine.specs.Machines.{IsReplayOf}
use Rattle.lb_machine.specs.Replays.{IsRightFault}
use Rattle.lb_words.specs.declared.job.Mode.TheVariants as mode
use Rattle.lb_system.specs.Views.{with_log}
use Rattle.lb_system.specs.Questions.{Entries, Frames, InForm, Legal, SaysLog, Sections, checked}
use Rattle.lb_system.specs.InternalAnswers.{IsModeRefusal, LeavesForm, case_of}
use Rattle.lb_system.proofs.AskLemmas.{form_refused}
use Rattle.lb_system.proofs.LogBounds.{said_script, said_within, said_workers}
use Rattle.lb_system.proofs.MachineAnswers.{framed_holds, log_refused, replay_made}
use Rattle.lb_system.proofs.SectionBounds.{section_short, section_within}
use Rattle.lb_system.proofs.machines.replay_mode.Goals as goal

pub returns-in_err-program-clause-refused : goal.returns-in_err-program-clause-refused
returns-in_err-program-clause-refused c =
    let p = err_from_is_err_and c.from_residual.result c.from_residual.ensures.1 in
    rw (p.1, p.2) (c.in_err-program.ensures.refused c.args.job.now (InForm Entries 2 ∷ Legal ∷ []))

pub log_of-requires : goal.log_of-requires
log_of-requires c =
    let list = ap (map seen) c.deref.ensures.value ∙ c.in_ok-program.ensures.list in
    let same : seen c.section_at.result ≡ section 2 c.args.input.now = c.section_at.ensures ∙ ap (part_at 2) list in
    omega (arith, ap (λ s. s.line) same, ap (λ s. length s.text) same, section_within 2 c.args.input.now c.requires)

pub returns-in_err-log-clause-refused : goal.returns-in_err-log-clause-refused
returns-in_err-log-clause-refused c =
    let p = err_from_is_err_and c.from_residual-in_err-log.result c.from_residual-in_err-log.ensures.1 in
    let list = ap (map seen) c.deref.ensures.value ∙ c.in_ok-program.ensures.list in
    let same : seen c.section_at.result ≡ section 2 c.args.input.now = c.section_at.ensures ∙ ap (part_at 2) list in
    let left = subst (λ s. LeavesForm Entries s c.in_err-log.field-0.0) same c.in_err-log.ensures.refused in
    let all = framed_holds (case_of c.args.job.now c.args.input.now None) 3 (program_of c.in_ok-program.program) c.in_ok-program.frames.items c.in_ok-program.ensures.opened c.in_ok-program.ensures.rules
    c.in_ok-program.ensures.frames in
    rw (p.1, p.2)
    (form_refused (Sections 3 ∷ (checked ++ InForm Frames 1 ∷ [])) (Legal ∷ []) Entries 2 c.args.job.now c.args.input.now c.in_err-log.field-0.0 all left)

pub replayed-requires-clause-frames : goal.replayed-requires-clause-frames
replayed-requires-clause-frames c = said_script (section 1 c.args.input.now) c.in_ok-program.frames.items c.in_ok-program.ensures.frames

pub replayed-requires-clause-few : goal.replayed-requires-clause-few
replayed-requires-clause-few c =
    let list = ap (map seen) c.deref.ensures.value ∙ c.in_ok-program.ensures.list in
    let same : seen c.section_at.result ≡ section 2 c.args.input.now = c.section_at.ensures ∙ ap (part_at 2) list in
    let within = said_within (seen c.section_at.result) c.in_ok-log.log.items c.in_ok-log.ensures.read in
    omega (arith, within, ap (λ s. length s.text) same, ap length c.deref-2.ensures.value, section_short 2 c.args.input.now c.requires)

pub replayed-requires-clause-workers : goal.replayed-requires-clause-workers
replayed-requires-clause-workers c =
    subst HaveWorkers (sym c.deref-2.ensures.value) (said_workers (seen c.section_at.result) c.in_ok-log.log.items c.in_ok-log.ensures.read)

pub returns-in-Err-clause-refused : goal.returns-in-Err-clause-refused
returns-in-Err-clause-refused c =
    let list = ap (map seen) c.deref.ensures.value ∙ c.in_ok-program.ensures.list in
    let same : seen c.section_at.result ≡ section 2 c.args.input.now = c.section_at.ensures ∙ ap (part_at 2) list in
    let entries = subst (λ s. SaysLog s c.in_ok-log.log.items) same c.in_ok-log.ensures.read in
    let refused = subst (λ log. IsRightFault (job_on c.in_ok-image.image c.in_ok-program.frames.items) log c.in-Err.fault) c.deref-2.ensures.value c.in-Err.ensures.refused in
    subst (IsModeRefusal mode.Replay c.args.job.now c.args.input.now) (sym c.refused_log.ensures)
    (log_refused c.args.job.now c.args.input.now (program_of c.in_ok-program.program) c.in_ok-program.frames.items c.in_ok-log.log.items c.in_ok-image.image c.in-Err.fault
    c.in_ok-program.ensures.opened c.in_ok-program.ensures.frames entries c.in_ok-image.ensures refused)

pub returns-clause-made : goal.returns-clause-made
returns-clause-made c =
    let list = ap (map seen) c.deref.ensures.value ∙ c.in_ok-program.ensures.list in
    let same : seen c.section_at.result ≡ section 2 c.args.input.now = c.section_at.ensures ∙ ap (part_at 2) list in
    let entries = subst (λ s. SaysLog s c.in_ok-log.log.items) same c.in_ok-log.ensures.read in
    let on = job_on c.in_ok-image.image c.in_ok-program.frames.items in
    let replayed = subst (λ log. IsReplayOf on log c.in-Ok.machine) c.deref-2.ensures.value c.in-Ok.ensures.replayed in
    let legal = subst (IsLegal on) c.deref-2.ensures.value c.in-Ok.ensures.legal in
    let shown = c.with_log.ensures ∙ ap (λ log. with_log c.in_ok-report.report.items log c.in_ok-image.image) c.into_parts.ensures.log in
    replay_made c.args.job.now c.args.input.now (program_of c.in_ok-program.program) c.in_ok-program.frames.items c.in_ok-log.log.items c.in_ok-image.image c.in-Ok.machine
    c.in_ok-report.report.items c.with_log.result c.in_ok-program.ensures.opened c.in_ok-program.ensures.frames entries c.in_ok-image.ensures replayed legal
    c.in_ok-report.ensures shown
