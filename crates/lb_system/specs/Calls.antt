-- What the top call owes to its caller, whoever fires the machine's kinds.
use Rattle.std.specs.Prelude.{◌≡◌, ◌≢◌, ◌≤◌, ◌⊎◌, List, None, Some, IfSome, false}
use Rattle.lb_ports.specs.Bytes.{ReadsUpTo, ReadsMoreThan}
use Rattle.lb_syntax.specs.Names.{Text}
use Rattle.lb_words.specs.declared.job.Job.{Job}
use Rattle.lb_system.specs.declared.fault.Fault.TheVariants as fault
use Rattle.lb_system.specs.declared.top.Ended.{Ended}
use Rattle.lb_system.specs.Request.{AreInForm, IsRequest}
use Rattle.lb_system.specs.Faults.{status_of}
use Rattle.lb_system.specs.Questions.{Case, Question, Legal, AllHold, IsFirstNo, asks, but_legal, reads}
use Rattle.lb_system.specs.Answers.{Port, Failed, HasCause, HasReport, IsKnownCase, IsOfInput, IsReported, IsTooMuch, ReadFails, ShowsForm, ShowsNothing, TellsOf, UnlessMemory, WritesLine, most_input}
use Rattle.lb_system.specs.declared.crew.Workers.{Workers}

-- a call with these words, this source and this sink ended rightly; worker 0 alone fires the kinds of a
-- machine, or as many workers as the job says
pub record EndsRightly (crew : Workers) (words : List Text) (source sink : Port) (e : Ended)
    : Type 0 where
  pub status : e.status ≡ status_of e.fault
  -- the words are in form, unless the answer is that they aren't, or want of memory
  pub usage : e.fault ≡ Some fault.Usage → ¬ (AreInForm words)
  pub in_form : ShowsForm e.fault → AreInForm words
  -- the reading failed, or found too much, where the answer says so, and only there
  pub read : e.fault ≡ Some fault.Read → ReadFails source
  pub steady : e.fault ≢ Some fault.Read → source.after ≡ source.before
  pub too_long : e.fault ≡ Some fault.TooLong → ReadsMoreThan source.old source.new most_input
  pub long : (bytes : Text) → IsTooMuch words source bytes
      → UnlessMemory e.fault (e.fault ≡ Some fault.TooLong)
  pub memory : e.fault ≡ Some fault.Memory → ReadsUpTo source.old source.new most_input
  -- a fault of what was read tells of the first question whose answer is no; where there is such a
  -- question, it is told of
  pub cause : IfSome e.fault (λ f. IsOfInput f → HasCause words source e.image f)
  pub told : (c : Case) (q : Question) → IsKnownCase words source e.image c
      → IsFirstNo c (asks c) q → UnlessMemory e.fault (TellsOf c q e.fault)
  -- the report; it is whole where all the answers are yes and nothing fails. Where but the last of them
  -- need be yes, whether a log is legal, it is whole, or the fault tells the first entry that can't be
  -- fired
  pub report : HasReport e.fault → IsReported crew words source sink e
  pub complete : (c : Case) → IsKnownCase words source e.image c → AllHold c (asks c)
      → ¬ (Failed sink) → UnlessMemory e.fault (e.fault ≡ None)
  pub replayed : (c : Case) → IsKnownCase words source e.image c → AllHold c (but_legal (asks c))
      → ¬ (Failed sink) → UnlessMemory e.fault ((e.fault ≡ None) ⊎ TellsOf c Legal e.fault)
  -- a job without an input ends with a report, or for want of memory
  pub unasked : (job : Job) → IsRequest words job → reads job ≡ false
      → UnlessMemory e.fault (HasReport e.fault)
  -- what comes in its place
  pub line : WritesLine sink e.fault
  pub nothing : IfSome e.fault (λ f. ¬ (HasReport (Some f)) → ShowsNothing e f)
  -- the counts of faults never fall
  pub later : source.before ≤ source.after
  pub sunk : sink.before ≤ sink.after
