-- What the parts of the top call say. Only contracts of private functions cite it.
use Rattle.std.specs.Prelude.{◌≡◌, ◌⊎◌, ℕ, ◌≤◌, List, length, Some, None}
use Rattle.std.specs.declared.option.Option.{Option}
use Rattle.lb_ports.specs.Bytes.{ReadsUpTo, ReadsMoreThan}
use Rattle.lb_syntax.specs.Names.{Text}
use Rattle.lb_syntax.specs.Tree.{Procedure}
use Rattle.lb_spelling.specs.Places.{IsAccepted, IsFault}
use Rattle.lb_image.specs.declared.image.Image.{Image}
use Rattle.lb_machine.specs.Logs.{most_entries}
use Rattle.lb_machine.specs.declared.fault.ReplayFault.{ReplayFault}
use Rattle.lb_machine.specs.declared.fault.ReplayFault.TheVariants as replay
use Rattle.lb_sections.specs.Sections.{Part, sections}
use Rattle.lb_words.specs.declared.job.Job.{Job}
use Rattle.lb_words.specs.declared.job.Mode.{Mode}
use Rattle.lb_system.specs.declared.fault.Fault.{Fault}
use Rattle.lb_system.specs.declared.fault.Fault.TheVariants as fault
use Rattle.lb_system.specs.declared.fault.FormFault.TheVariants as form
use Rattle.lb_system.specs.declared.answer.Refused.{Refused}
use Rattle.lb_system.specs.Request.{AreInForm}
use Rattle.lb_system.specs.Faults.{TakesMemory}
use Rattle.lb_system.specs.Views.{View}
use Rattle.lb_system.specs.Questions.{Case, Question, Lines, HasLines, IsLineFault, questions, mode_questions, source, AllHold, IsCauseOf, BreaksRule, BreaksLimit}
use Rattle.lb_system.specs.Answers.{Port, CrewShows, Shows, ModeShows, AskForInput, ReadFails, IsOfInput, HasCause, FitsImage, most_input}
use Rattle.lb_system.specs.declared.crew.Workers.{Workers}

-- the job's case, with this image
abbrev pub case_of : Job → Text → Option Image → Case
case_of job input i = record { job = job; input = input; image = i }

-- all the answers are yes, and this is what is shown
abbrev pub IsAnswer : Workers → Job → Text → View → Type 0
IsAnswer crew job input s =
    AllHold (case_of job input s.image) (questions job input) × Shows crew job input s

-- the same of a mode
abbrev pub IsModeAnswer : Mode → Job → Text → View → Type 0
IsModeAnswer m job input s =
    AllHold (case_of job input s.image) (mode_questions m input) × ModeShows m job input s

-- of a mode with a crew
abbrev pub IsCrewAnswer : Workers → Mode → Job → Text → View → Type 0
IsCrewAnswer crew m job input s =
    AllHold (case_of job input s.image) (mode_questions m input) × CrewShows crew m job input s

-- why there is no answer: want of memory, or the first of the questions whose answer is no
abbrev pub IsRefusalOf : List Question → Job → Text → Refused → Type 0
IsRefusalOf qs job input r =
    ((r.fault ≡ fault.Memory) × (r.image ≡ None))
    ⊎ (IsOfInput r.fault × IsCauseOf (case_of job input r.image) qs r.fault
    × FitsImage r.fault r.image)

abbrev pub IsModeRefusal : Mode → Job → Text → Refused → Type 0
IsModeRefusal m job input r = IsRefusalOf (mode_questions m input) job input r

-- the refusal without an image
abbrev pub without_image : Fault → Refused
without_image f = record { fault = f; image = None }

-- why there is no report: each fault and what it tells of the words and of the reading
abbrev pub IsReason : List Text → Port → Fault → Option Image → Type 0
IsReason words source fault.Usage i = (¬ (AreInForm words)) × (i ≡ None)
IsReason words source fault.Read i = AskForInput words × ReadFails source × (i ≡ None)
IsReason words source fault.TooLong i =
    AskForInput words × ReadsMoreThan source.old source.new most_input × (i ≡ None)
IsReason words source fault.Memory i = ReadsUpTo source.old source.new most_input × (i ≡ None)
IsReason words source fault.Write i = ⊥
IsReason words source f i = HasCause words source i f × FitsImage f i

-- what is told in place of what was found: the same, or want of memory for its line
abbrev pub IsTold : Refused → Option Fault → Option Image → Type 0
IsTold found told i =
    ((told ≡ Some found.fault) × (i ≡ found.image))
    ⊎ (TakesMemory found.fault × (told ≡ Some fault.Memory) × (i ≡ None))

-- why words ask for nothing
abbrev pub AsksNothing : List Text → Fault → Type 0
AsksNothing words fault.Usage = ¬ (AreInForm words)
AsksNothing words fault.Memory = Unit {0}
AsksNothing words _ = ⊥

-- why an input isn't read
abbrev pub LeavesUnread : Port → Fault → Type 0
LeavesUnread source fault.Read = ReadFails source
LeavesUnread source fault.TooLong = ReadsMoreThan source.old source.new most_input
LeavesUnread source fault.Memory = ReadsUpTo source.old source.new most_input
LeavesUnread source _ = ⊥

-- why the lines of a section aren't in form
abbrev pub LeavesForm : Lines → Part → Fault → Type 0
LeavesForm lines part fault.Memory = Unit {0}
LeavesForm lines part (fault.Form (form.Line f)) =
    IsLineFault lines part f × (¬ (HasLines lines part))
LeavesForm lines part _ = ⊥

-- the refusal of a log: the image is shown with an entry that can't be fired
abbrev pub refused_log : ReplayFault → Image → Refused
refused_log replay.Memory i = without_image fault.Memory
refused_log (replay.BadEvent at) i = record { fault = fault.Form (form.Event at); image = Some i }

-- the job's numbers are in their ranges
pub record IsInRange (job : Job) : Type 0 where
  pub events : job.events ≤ most_entries
  pub some : 1 ≤ job.workers
  pub few : job.workers ≤ 8

-- the text is the program's alone
pub record IsOnly (text : Text) (p : List Procedure) : Type 0 where
  pub accepted : IsAccepted p text
  pub only : (q : List Procedure) → IsAccepted q text → q ≡ p

-- why a text gives no program
abbrev pub LeavesGrammar : Text → Fault → Type 0
LeavesGrammar text fault.Memory = Unit {0}
LeavesGrammar text (fault.Text f) = IsFault text f
LeavesGrammar text _ = ⊥

-- why a program isn't in order
abbrev pub BreaksRules : List Procedure → Fault → Type 0
BreaksRules p fault.Memory = Unit {0}
BreaksRules p (fault.Check f) = BreaksRule f p
BreaksRules p (fault.Limit f) = BreaksLimit f p
BreaksRules p _ = ⊥

-- the source is read, as the program, and there aren't too many sections
pub record IsOpened (most : ℕ) (input : Text) (p : List Procedure) : Type 0 where
  pub few : length (sections input) ≤ most
  pub text : IsOnly (source input) p
