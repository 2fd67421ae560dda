use Rattle.std.proofs.Common.{rules, ◌≤◌, length, refl, map, ap, sym, subst, ◌∙◌}
use Rattle.std.specs.Prelude.{string_bytes}
use Rattle.std.proofs.lemmas.Result.{IfOk-weaker, IfErr-weaker, err_from_is_err_and}
use Rattle.lb_system.specs.Questions.{reads}
use Rattle.lb_system.specs.Answers.{AskForInput, IsRead, most_input, port}
use Rattle.lb_system.specs.InternalAnswers.{IsReason, case_of}
use Rattle.lb_system.proofs.RefusalLemmas.{unasked_reason, unread_reason}
use Rattle.lb_system.proofs.TopLemmas.{refusal_reason}
use Rattle.lb_system.proofs.UnaskedLemmas.{reads_nothing}
use Rattle.lb_system.proofs.top.prepare.Goals as goal

-- ---- the words ask for nothing

pub returns-in_err-job-clause-reason : goal.returns-in_err-job-clause-reason
returns-in_err-job-clause-reason g c =
    let words = map string_bytes c.args.words.now in
    let source = port g.I.Source.left g.I.Source.faults c.args.input.now c.args.input.now in
    let p = err_from_is_err_and c.from_residual.result c.from_residual.ensures.1 in
    rw (p.1) (subst (λ r. IsReason words source r.fault r.image) (sym p.2) (unasked_reason words source c.in_err-job.field-0.0 refl c.in_err-job.ensures.refused))

-- ---- the input isn't read

pub returns-in_err-bytes-clause-reason : goal.returns-in_err-bytes-clause-reason
returns-in_err-bytes-clause-reason g c =
    let words = map string_bytes c.args.words.now in
    let source = port g.I.Source.left g.I.Source.faults c.args.input.now c.input_of.new.input in
    let p = err_from_is_err_and c.from_residual-in_err-bytes.result c.from_residual-in_err-bytes.ensures.1 in
    let ask : AskForInput words = (c.in_ok-job.job, c.in_ok-job.ensures.asked, c.in_err-bytes.ensures.asked) in
    rw (p.1) (subst (λ r. IsReason words source r.fault r.image) (sym p.2) (unread_reason words source c.in_err-bytes.field-0.0 ask c.in_err-bytes.ensures.refused))

pub returns-in_err-bytes-clause-unread : goal.returns-in_err-bytes-clause-unread
returns-in_err-bytes-clause-unread g c = λ none. c.input_of.ensures.unread (reads_nothing (map string_bytes c.args.words.now) c.in_ok-job.job c.in_ok-job.ensures.asked none)

pub returns-in_err-bytes-clause-stays : goal.returns-in_err-bytes-clause-stays
returns-in_err-bytes-clause-stays g c =
    let p = err_from_is_err_and c.from_residual-in_err-bytes.result c.from_residual-in_err-bytes.ensures.1 in
    rw (p.1) (λ other. c.in_err-bytes.ensures.stays (λ same. other (ap (λ r. r.fault) p.2 ∙ same)))

-- ---- it is

pub returns-clause-made : goal.returns-clause-made
returns-clause-made g c =
    let source = port g.I.Source.left g.I.Source.faults c.args.input.now c.input_of.new.input in
    let job = c.in_ok-job.job in
    let read : IsRead (reads job) source c.deref.result.now = subst (IsRead (reads job) source) (sym c.deref.ensures.value) c.in_ok-bytes.ensures.read in
    let short : length c.deref.result.now ≤ most_input = search rules in
    IfOk-weaker c.answer_to.result _ _ (λ s h. record {
      it = case_of job c.deref.result.now s.image;
      case = record { asked = c.in_ok-job.ensures.asked; read = read; short = short; shown = refl };
      all = h.0;
      shows = h.1;
    }) c.answer_to.ensures.made

pub returns-clause-reason : goal.returns-clause-reason
returns-clause-reason g c =
    let source = port g.I.Source.left g.I.Source.faults c.args.input.now c.input_of.new.input in
    let job = c.in_ok-job.job in
    let read : IsRead (reads job) source c.deref.result.now = subst (IsRead (reads job) source) (sym c.deref.ensures.value) c.in_ok-bytes.ensures.read in
    let short : length c.deref.result.now ≤ most_input = search rules in
    IfErr-weaker c.answer_to.result _ _ (λ r h. refusal_reason (map string_bytes c.args.words.now) source job c.deref.result.now r c.in_ok-job.ensures.asked read short h)
    c.answer_to.ensures.refused

pub returns-clause-unread : goal.returns-clause-unread
returns-clause-unread g c = λ none. c.input_of.ensures.unread (reads_nothing (map string_bytes c.args.words.now) c.in_ok-job.job c.in_ok-job.ensures.asked none)
