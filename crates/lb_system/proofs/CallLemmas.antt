-- What the top call owes, from what was found.
use Rattle.std.proofs.Common.{◌≡◌, ◌≢◌, inl, inr, ◌≤◌, List, [], Some, sym, subst}
use Rattle.std.specs.Prelude.{IfSome}
use Rattle.lb_ports.specs.Bytes.{ReadsUpTo, ReadsMoreThan}
use Rattle.lb_syntax.specs.Names.{Text}
use Rattle.lb_system.specs.declared.fault.Fault.TheVariants as fault
use Rattle.lb_system.specs.declared.answer.Refused.{Refused}
use Rattle.lb_system.specs.declared.top.Ended.{Ended}
use Rattle.lb_system.specs.Request.{AreInForm}
use Rattle.lb_system.specs.Faults.{status_of}
use Rattle.lb_system.specs.Views.{shown_by}
use Rattle.lb_system.specs.Answers.{Port, HasCause, HasReport, IsOfInput, IsReport, ReadFails, ShowsNothing, WritesLine, WritesReport, most_input}
use Rattle.lb_system.specs.Calls.{EndsRightly}
use Rattle.lb_system.specs.InternalAnswers.{IsReason, IsTold}
use Rattle.lb_system.proofs.UnaskedLemmas.{told_unasked}
use Rattle.lb_system.proofs.TopLemmas.{report_first, report_form, report_much, told_cause, told_complete, told_first, told_fits, told_form, told_long, told_memory, told_much, told_read, told_reason, told_replayed, told_steady, told_unreported, told_usage, written_cases, written_whole}
use Rattle.lb_system.specs.declared.crew.Workers.{Workers}

-- there is a report
pub report_rightly : (crew : Workers) (words : List Text) (source sink : Port) (e : Ended) (text : Text) → e.status ≡ status_of e.fault → IsReport crew words source (shown_by e text)
    → WritesReport sink e.fault text → source.after ≡ source.before → source.before ≤ source.after → sink.before ≤ sink.after → EndsRightly crew words source sink e
report_rightly crew words source sink e text status r written steady later sunk =
    record {
      status = status;
      usage = written_cases sink text (λ o. o ≡ Some fault.Usage → ¬ (AreInForm words)) (λ x. absurd cc) (λ x. absurd cc) e.fault written;
      in_form = λ shows. report_form crew words source (shown_by e text) r;
      read = written_cases sink text (λ o. o ≡ Some fault.Read → ReadFails source) (λ x. absurd cc) (λ x. absurd cc) e.fault written;
      steady = λ other. steady;
      too_long = written_cases sink text (λ o. o ≡ Some fault.TooLong → ReadsMoreThan source.old source.new most_input) (λ x. absurd cc) (λ x. absurd cc) e.fault written;
      long = λ bytes much. absurd (report_much crew words source (shown_by e text) bytes r much);
      memory = written_cases sink text (λ o. o ≡ Some fault.Memory → ReadsUpTo source.old source.new most_input) (λ x. absurd cc) (λ x. absurd cc) e.fault written;
      cause = written_cases sink text (λ o. IfSome o (λ f. IsOfInput f → HasCause words source e.image f)) tt (λ o. absurd o) e.fault written;
      told = λ c q known first. absurd (report_first crew words source (shown_by e text) c q r known first);
      report = λ h. (text, r, written);
      complete = λ c known all calm. inr (written_whole sink e.fault text written calm);
      replayed = λ c known all calm. inr (inl (written_whole sink e.fault text written calm));
      unasked = λ job asked none. inr (written_cases sink text HasReport tt tt e.fault written);
      line = written_cases sink text (WritesLine sink) tt tt e.fault written;
      nothing = written_cases sink text (λ o. IfSome o (λ f. ¬ (HasReport (Some f)) → ShowsNothing e f)) tt (λ none. absurd (none tt)) e.fault written;
      later = later;
      sunk = sunk;
    }

-- there is none
pub refusal_rightly : (crew : Workers) (words : List Text) (source sink : Port) (r : Refused) (e : Ended) → e.status ≡ status_of e.fault → IsReason words source r.fault r.image
    → IsTold r e.fault e.image → WritesLine sink e.fault → e.log.items ≡ [] → (r.fault ≢ fault.Read → source.after ≡ source.before) → source.before ≤ source.after
    → sink.before ≤ sink.after → EndsRightly crew words source sink e
refusal_rightly crew words source sink r e status reason found line log stays later sunk =
    let t = told_reason words source r e.fault e.image reason found in
    record {
      status = status;
      usage = told_usage words source e.fault e.image t;
      in_form = told_form words source e.fault e.image t;
      read = told_read words source e.fault e.image t;
      steady = λ other. stays (told_steady r e.fault e.image found other);
      too_long = told_long words source e.fault e.image t;
      long = λ bytes much. told_much words source e.fault e.image bytes t much;
      memory = told_memory words source e.fault e.image t;
      cause = told_cause words source e.fault e.image t;
      told = λ c q known first. told_first words source e.fault e.image c q t known first;
      report = λ h. absurd (told_unreported words source e.fault e.image t h);
      complete = λ c known all calm. inl (told_complete words source e.fault e.image c t known all);
      replayed = λ c known all calm. told_replayed words source e.fault e.image c t known all;
      unasked = λ job asked none. told_unasked words source e.fault e.image job t asked none;
      line = line;
      nothing = subst (λ o. IfSome o (λ f. ¬ (HasReport (Some f)) → ShowsNothing e f)) (sym t.is)
          (λ none. record { image = told_fits words source t.f e.image t.reason; log = log });
      later = later;
      sunk = sunk;
    }
