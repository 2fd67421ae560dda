-- What the error of a part tells, as a fault of the call.
use Rattle.std.proofs.Common.{◌≡◌, false, List, [], None, refl, sym, subst, arith}
use Rattle.lb_ports.specs.Bytes.{ReadsUpTo, ReadsMoreThan}
use Rattle.lb_ports.specs.declared.whole.ReadAllFault.{ReadAllFault}
use Rattle.lb_ports.specs.declared.whole.ReadAllFault.TheVariants as input
use Rattle.lb_syntax.specs.Names.{Text}
use Rattle.lb_syntax.specs.Tree.{Procedure}
use Rattle.lb_text.specs.declared.error.ReadError.{ReadError}
use Rattle.lb_text.specs.declared.error.ReadError.TheVariants as text
use Rattle.lb_text.specs.Refusal.{FaultOf}
use Rattle.lb_check.specs.declared.fault.CheckError.{CheckError}
use Rattle.lb_check.specs.declared.fault.CheckError.TheVariants as check
use Rattle.lb_check.specs.Verdict.{IsRefusal}
use Rattle.lb_words.specs.declared.read.JobError.{JobError}
use Rattle.lb_words.specs.declared.read.JobError.TheVariants as words
use Rattle.lb_system.specs.declared.fault.Fault.{Fault}
use Rattle.lb_system.specs.declared.fault.Fault.TheVariants as fault
use Rattle.lb_system.specs.Request.{AreInForm}
use Rattle.lb_system.specs.Faults.{IsCheckFault, input_fault, text_fault, words_fault}
use Rattle.lb_system.specs.Answers.{AskForInput, Failed, Port, most_input}
use Rattle.lb_system.specs.InternalAnswers.{AsksNothing, BreaksRules, IsReason, LeavesGrammar, LeavesUnread}
use Rattle.lb_system.proofs.TopLemmas.{read_up_to}

-- ---- parts

pub words_left : (asked : List Text) (e : JobError) → (e ≡ words.Usage → ¬ (AreInForm asked)) → AsksNothing asked (words_fault e)
words_left asked words.Usage usage = usage refl
words_left asked words.Memory usage = tt

pub input_left : (source : Port) (e : ReadAllFault) → (e ≡ input.Read → ReadsUpTo source.old source.new most_input) → (e ≡ input.Read → Failed source)
    → (e ≡ input.TooLong → ReadsMoreThan source.old source.new most_input) → (e ≡ input.Memory → ReadsUpTo source.old source.new most_input)
    → LeavesUnread source (input_fault e)
input_left source input.Read read failed long memory = (read refl, failed refl)
input_left source input.TooLong read failed long memory = long refl
input_left source input.Memory read failed long memory = memory refl

pub grammar_left : (s : Text) (e : ReadError) → FaultOf e s → LeavesGrammar s (text_fault e)
grammar_left s (text.Text f) h = h
grammar_left s text.Memory h = tt

pub rules_left : (p : List Procedure) (e : CheckError) (f : Fault) → IsCheckFault e f → IsRefusal p e → BreaksRules p f
rules_left p check.Memory f is h = subst (BreaksRules p) (sym is) tt
rules_left p (check.Fault x) (fault.Check g) is h = record { broken = h.1; first = rw (is.0) h.0; no_limit = rw (is.0) is.1 }
rules_left p (check.Fault x) (fault.Limit g) is h = record { broken = h.1; first = rw (is.0) h.0; limit = rw (is.0) is.1 }
rules_left p (check.Fault x) fault.Usage is h = absurd is
rules_left p (check.Fault x) (fault.Text f) is h = absurd is
rules_left p (check.Fault x) (fault.Form f) is h = absurd is
rules_left p (check.Fault x) fault.Read is h = absurd is
rules_left p (check.Fault x) fault.Write is h = absurd is
rules_left p (check.Fault x) fault.TooLong is h = absurd is
rules_left p (check.Fault x) fault.Memory is h = absurd is

-- ---- why there is no report

-- words that ask for nothing, where nothing was read
pub unasked_reason : (asked : List Text) (source : Port) (f : Fault) → source.new ≡ source.old → AsksNothing asked f → IsReason asked source f None
unasked_reason asked source fault.Usage same h = (h, refl)
unasked_reason asked source fault.Memory same h = (read_up_to false source [] (same, refl) (omega arith), refl)
unasked_reason asked source (fault.Text x) same h = absurd h
unasked_reason asked source (fault.Check x) same h = absurd h
unasked_reason asked source (fault.Limit x) same h = absurd h
unasked_reason asked source (fault.Form x) same h = absurd h
unasked_reason asked source fault.Read same h = absurd h
unasked_reason asked source fault.Write same h = absurd h
unasked_reason asked source fault.TooLong same h = absurd h

-- an input that isn't read
pub unread_reason : (asked : List Text) (source : Port) (f : Fault) → AskForInput asked → LeavesUnread source f → IsReason asked source f None
unread_reason asked source fault.Read ask h = (ask, h, refl)
unread_reason asked source fault.TooLong ask h = (ask, h, refl)
unread_reason asked source fault.Memory ask h = (h, refl)
unread_reason asked source fault.Usage ask h = absurd h
unread_reason asked source (fault.Text x) ask h = absurd h
unread_reason asked source (fault.Check x) ask h = absurd h
unread_reason asked source (fault.Limit x) ask h = absurd h
unread_reason asked source (fault.Form x) ask h = absurd h
unread_reason asked source fault.Write ask h = absurd h
