-- What the top call owes to its caller.
use Rattle.std.specs.Prelude.{◌≡◌, ℕ, ◌≤◌, ◌<◌, ◌⊎◌, Bool, true, false, List, [], length, Some, None}
use Rattle.std.specs.declared.option.Option.{Option}
use Rattle.std.specs.Io.KnownBytes.{Appends}
use Rattle.lb_ports.specs.Bytes.{ReadsAll, ReadsUpTo, AppendsPrefix}
use Rattle.lb_ports.specs.Faults.{Rose}
use Rattle.lb_syntax.specs.Names.{Text}
use Rattle.lb_syntax.specs.Tree.{Procedure}
use Rattle.lb_syntax.specs.Calls.{IsStackNeed}
use Rattle.lb_syntax.specs.Rules.{KeepsRules}
use Rattle.lb_syntax.specs.Printing.{program_text}
use Rattle.lb_image.specs.declared.image.Image.{Image}
use Rattle.lb_image.specs.Images.{IsImage, image_bytes}
use Rattle.lb_trace.specs.declared.Entry.{Entry}
use Rattle.lb_trace.specs.declared.Event.{Event}
use Rattle.lb_trace.specs.Frame.{FrameContent}
use Rattle.lb_machine.specs.State.{Job as MachineJob}
use Rattle.lb_machine.specs.Logs.{IsLegal}
use Rattle.lb_machine.specs.Machines.{MachineContent, IsBooted}
use Rattle.lb_crew.specs.Crews.{Finishes}
use Rattle.lb_grammar.specs.declared.Verdict.{Verdict}
use Rattle.lb_bulb.specs.Supplied.{supplied}
use Rattle.lb_correctness.specs.Images.{IsCompiled}
use Rattle.lb_correctness.specs.Machines.{job_on}
use Rattle.lb_sections.specs.Sections.{section}
use Rattle.lb_words.specs.declared.job.Job.{Job}
use Rattle.lb_words.specs.declared.job.Mode.{Mode}
use Rattle.lb_words.specs.declared.job.Mode.TheVariants as mode
use Rattle.lb_system.specs.declared.fault.Fault.{Fault}
use Rattle.lb_system.specs.declared.fault.Fault.TheVariants as fault
use Rattle.lb_system.specs.declared.fault.FormFault.TheVariants as form
use Rattle.lb_system.specs.declared.top.Ended.{Ended}
use Rattle.lb_system.specs.Request.{IsRequest}
use Rattle.lb_system.specs.Report.{check_report, list_report}
use Rattle.lb_system.specs.RunReport.{interp_report, isa_report}
use Rattle.lb_system.specs.MachineReport.{IsMachineReport, IsLampReport, IsVerdict, verdict_text}
use Rattle.lb_system.specs.LargeReport.{ShowsLarge}
use Rattle.lb_system.specs.Faults.{fault_line}
use Rattle.lb_system.specs.Views.{View, of_report, with_image, shown_by}
use Rattle.lb_system.specs.Questions.{Case, Question, OfProgram, SaysReplies, SaysEvents, SaysFrames, SaysLog, Tells, AllHold, IsCause, asks, is_image, reads}
use Rattle.lb_system.specs.declared.crew.Workers.{Workers}
use Rattle.lb_system.specs.declared.crew.Workers.TheVariants as workers

-- ---- what each mode shows where every answer is yes

-- the program keeps the rules, and the report tells what it asks for
pub record IsCheckReport (p : List Procedure) (report : Text) : Type 0 where
  pub rules : KeepsRules p
  pub stack : ℕ
  pub need : IsStackNeed p stack
  pub told : report ≡ check_report p stack

-- what is shown of the source's program: what it asks for, or its canonical text
abbrev pub ShowsNeeds : View → List Procedure → Type 0
ShowsNeeds s p = IsCheckReport p s.report × (s ≡ of_report s.report)

abbrev pub ShowsText : View → List Procedure → Type 0
ShowsText s p = s ≡ of_report (program_text p)

-- a report over the program's image, and that image
abbrev pub ShowsImage : (Image → Text) → View → List Procedure → Type 0
ShowsImage report s p = (i : Image) × IsCompiled p i × (s ≡ with_image (report i) i)

-- the same over the replies that the second section says, too
abbrev pub ShowsReplied : (List Procedure → List ℕ → Image → Text) → Text → View → Type 0
ShowsReplied report input s =
    (replies : List ℕ) × SaysReplies (section 1 input) replies
    × OfProgram input (λ p. ShowsImage (report p replies) s p)

-- the listing of an image, or of the image of the source's program
abbrev pub ShowsListing : Bool → Text → View → Type 0
ShowsListing true input s =
    (i : Image) × IsImage i × (input ≡ image_bytes i) × (s ≡ of_report (list_report i))
ShowsListing false input s = OfProgram input (ShowsImage list_report s)

-- how many workers fire a machine's kinds: worker 0 alone, or as many as the job says
abbrev pub workers_of : Workers → Job → ℕ
workers_of workers.Alone job = 1
workers_of workers.AsAsked job = job.workers

-- a crew went on from boot, with a log of at most as many entries as the job has events, until the log
-- was full or the core halted
pub record IsCrewsMachine (crew : Workers) (job : Job) (on : MachineJob) (m : MachineContent)
    : Type 0 where
  pub booted : MachineContent
  pub boots : IsBooted on job.events booted
  pub finishes : Finishes job.seed (workers_of crew job) booted m

-- the log of such a machine
pub record IsCrewsLog (crew : Workers) (job : Job) (on : MachineJob) (log : List Entry)
    : Type 0 where
  pub ended : MachineContent
  pub crews : IsCrewsMachine crew job on ended
  pub made : log ≡ ended.log

-- the log is legal, and the third section says it
abbrev pub IsReadLog : Text → MachineJob → List Entry → Type 0
IsReadLog input on log = SaysLog (section 2 input) log × IsLegal on log

-- what is shown of a program whose image runs on the machine while these frames arrive: a log of this
-- kind, and this report on it
pub record ShowsMachine (IsLog : MachineJob → List Entry → Type 0)
    (IsTold : MachineJob → List Entry → Text → Type 0) (frames : List FrameContent) (s : View)
    (p : List Procedure) : Type 0 where
  pub i : Image
  pub compiled : IsCompiled p i
  pub shown : s.image ≡ Some i
  pub made : IsLog (job_on i frames) s.log
  pub told : IsTold (job_on i frames) s.log s.report

-- of the source's program, while the frames of the second section arrive
abbrev pub ShowsRun : (MachineJob → List Entry → Type 0) → Job → Text → View → Type 0
ShowsRun IsLog job input s =
    (frames : List FrameContent) × SaysFrames (section 1 input) frames
    × OfProgram input (ShowsMachine IsLog (IsMachineReport job) frames s)

-- of the supplied program, while the frames of the only section arrive
abbrev pub ShowsLamp : Workers → Job → Text → View → Type 0
ShowsLamp crew job input s =
    (frames : List FrameContent) × SaysFrames (section 0 input) frames
    × ShowsMachine (IsCrewsLog crew job) (IsLampReport job) frames s supplied

-- the verdict on the events that the only section says
abbrev pub ShowsVerdict : Text → View → Type 0
ShowsVerdict input s =
    (events : List Event) × (verdict : Verdict) × SaysEvents (section 0 input) events
    × IsVerdict events verdict × (s ≡ of_report (verdict_text verdict))

-- what each mode without a crew shows of its input
abbrev pub ModeShows : Mode → Job → Text → View → Type 0
ModeShows mode.Check job input s = OfProgram input (ShowsNeeds s)
ModeShows mode.Print job input s = OfProgram input (ShowsText s)
ModeShows mode.Compile job input s = OfProgram input (ShowsImage image_bytes s)
ModeShows mode.List job input s = ShowsListing (is_image input) input s
ModeShows mode.Interp job input s = ShowsReplied (interp_report job) input s
ModeShows mode.Isa job input s = ShowsReplied (λ p. isa_report job) input s
ModeShows mode.Replay job input s = ShowsRun (IsReadLog input) job input s
ModeShows mode.Judge job input s = ShowsVerdict input s
ModeShows mode.Gen job input s = ShowsLarge job s
ModeShows _ job input s = ⊥

-- and each mode
abbrev pub CrewShows : Workers → Mode → Job → Text → View → Type 0
CrewShows crew mode.Run job input s = ShowsRun (IsCrewsLog crew job) job input s
CrewShows crew mode.Lamp job input s = ShowsLamp crew job input s
CrewShows crew m job input s = ModeShows m job input s

abbrev pub Shows : Workers → Job → Text → View → Type 0
Shows crew job input s = CrewShows crew job.mode job input s

-- ---- the input

-- bytes that are known or not
abbrev pub Known : Type 0
Known = Option (List ℕ)

-- the most bytes of input
abbrev pub most_input : ℕ
most_input = 1048576

-- a source or a sink before and after a call: what is known of its bytes, and its count of faults
pub record Port : Type 0 where
  pub old : Known
  pub new : Known
  pub before : ℕ
  pub after : ℕ

abbrev pub port : {S : Type 0} → (S → Known) → (S → ℕ) → S → S → Port
port known faults old new = record {
  old = known old;
  new = known new;
  before = faults old;
  after = faults new;
}

-- the count of faults rose
abbrev pub Failed : Port → Type 0
Failed p = Rose p.before p.after

-- the input is all that was left; or there is none, and nothing was read
abbrev pub IsRead : Bool → Port → Text → Type 0
IsRead true source input = ReadsAll source.old source.new input
IsRead false source input = (source.new ≡ source.old) × (input ≡ [])

-- the same, from what is known before the call
abbrev pub IsLeft : Bool → Known → Text → Type 0
IsLeft true left input = left ≡ Some input
IsLeft false left input = input ≡ []

-- the words ask for the job of the case, its input is the one that was read and isn't too long, and
-- its image is shown
pub record IsCase (words : List Text) (source : Port) (image : Option Image) (c : Case)
    : Type 0 where
  pub asked : IsRequest words c.job
  pub read : IsRead (reads c.job) source c.input
  pub short : length c.input ≤ most_input
  pub shown : c.image ≡ image

-- the same, where the source tells its bytes and doesn't fail
pub record IsKnownCase (words : List Text) (source : Port) (image : Option Image) (c : Case)
    : Type 0 where
  pub asked : IsRequest words c.job
  pub told : IsLeft (reads c.job) source.old c.input
  pub short : length c.input ≤ most_input
  pub steady : ¬ (Failed source)
  pub shown : c.image ≡ image

-- the words ask for a job that has an input
abbrev pub AskForInput : List Text → Type 0
AskForInput words = (job : Job) × IsRequest words job × (reads job ≡ true)

-- the words ask for one, and the source tells more bytes than there may be and doesn't fail
pub record IsTooMuch (words : List Text) (source : Port) (bytes : Text) : Type 0 where
  pub asked : AskForInput words
  pub told : source.old ≡ Some bytes
  pub long : most_input < length bytes
  pub steady : ¬ (Failed source)

-- ---- faults

-- a read of the input failed: part of it was read, and the count of the source's faults rose
abbrev pub ReadFails : Port → Type 0
ReadFails source = ReadsUpTo source.old source.new most_input × Failed source

-- the fault is one of the input that was read
abbrev pub IsOfInput : Fault → Type 0
IsOfInput (fault.Text _) = Unit {0}
IsOfInput (fault.Check _) = Unit {0}
IsOfInput (fault.Limit _) = Unit {0}
IsOfInput (fault.Form _) = Unit {0}
IsOfInput _ = ⊥

-- the words and what was read are a case in which the fault tells of the first question whose answer
-- is no
abbrev pub HasCause : List Text → Port → Option Image → Fault → Type 0
HasCause words source image f = (c : Case) × IsCase words source image c × IsCause c f

-- an image is shown with a fault only where an entry of a log can't be fired on it
abbrev pub FitsImage : Fault → Option Image → Type 0
FitsImage (fault.Form (form.Event at)) image = Unit {0}
FitsImage _ image = image ≡ None

-- without a report nothing else is shown
pub record ShowsNothing (e : Ended) (f : Fault) : Type 0 where
  pub image : FitsImage f e.image
  pub log : e.log.items ≡ []

-- the answer is this, or there was no memory
abbrev pub UnlessMemory : Option Fault → Type 0 → Type 0
UnlessMemory told P = (told ≡ Some fault.Memory) ⊎ P

-- the fault tells of this question
abbrev pub TellsOf : Case → Question → Option Fault → Type 0
TellsOf c q told = (f : Fault) × (told ≡ Some f) × Tells c q f

-- there is a report: there is no fault, or but the report's write was refused
abbrev pub HasReport : Option Fault → Type 0
HasReport None = Unit {0}
HasReport (Some fault.Write) = Unit {0}
HasReport (Some _) = ⊥

-- the answer shows that the words are in form; want of memory may come before that is known
abbrev pub ShowsForm : Option Fault → Type 0
ShowsForm (Some fault.Usage) = ⊥
ShowsForm (Some fault.Memory) = ⊥
ShowsForm _ = Unit {0}

-- ---- what is shown and written

-- in the case of the words and what was read all the answers are yes, and this is what is shown of it
pub record IsReport (crew : Workers) (words : List Text) (source : Port) (s : View) : Type 0 where
  pub it : Case
  pub case : IsCase words source s.image it
  pub all : AllHold it (asks it)
  pub shows : Shows crew it.job it.input s

-- the text was written whole, and the count of the sink's faults stands
abbrev pub IsWritten : Port → Text → Type 0
IsWritten sink text = Appends sink.old sink.new text × (sink.after ≡ sink.before)

-- but a front of it was written, and the count rose
abbrev pub IsCut : Port → Text → Type 0
IsCut sink text = AppendsPrefix sink.old sink.new text × Failed sink

-- the line of a fault was written, whole or cut
abbrev pub WritesLine : Port → Option Fault → Type 0
WritesLine sink None = Unit {0}
WritesLine sink (Some fault.Write) = Unit {0}
WritesLine sink (Some f) = IsWritten sink (fault_line f) ⊎ IsCut sink (fault_line f)

-- the report was written whole where there is no fault, and cut where its write was refused
abbrev pub WritesReport : Port → Option Fault → Text → Type 0
WritesReport sink None report = IsWritten sink report
WritesReport sink (Some fault.Write) report = IsCut sink report
WritesReport sink (Some _) report = ⊥

-- what a call that ended so shows is the report of what was asked for on what was read, and its text
-- was written
abbrev pub IsReported : Workers → List Text → Port → Port → Ended → Type 0
IsReported crew words source sink e =
    (text : Text) × IsReport crew words source (shown_by e text) × WritesReport sink e.fault text
