-- What the runs of the modes `isa`, `run`, `replay` and `lamp` have to do with their program.
use Rattle.std.specs.Prelude.{◌≡◌, ℕ, ◌<◌, ◌≤◌, ◌⊎◌, List, length, All, Some}
use Rattle.lb_trace.specs.declared.Entry.{Entry}
use Rattle.lb_trace.specs.Frame.{FrameContent}
use Rattle.lb_ports.specs.Bytes.{ReadsAll}
use Rattle.lb_syntax.specs.Names.{Text}
use Rattle.lb_syntax.specs.Tree.{Procedure}
use Rattle.lb_spelling.specs.Places.{IsAccepted}
use Rattle.lb_sections.specs.Sections.{section}
use Rattle.lb_image.specs.declared.image.Image.{Image}
use Rattle.lb_rv.specs.declared.instr.Cause.{Cause}
use Rattle.lb_isa.specs.Runs.{isa}
use Rattle.lb_machine.specs.State.{Job as MachineJob}
use Rattle.lb_machine.specs.Logs.{IsLegal}
use Rattle.lb_machine.specs.Refusals.{halted_after}
use Rattle.lb_bulb.specs.Supplied.{supplied}
use Rattle.lb_correctness.specs.Images.{IsCompiled, IsRunOfImage}
use Rattle.lb_correctness.specs.Machines.{IsRunOnMachine, IsRunOfLamp, job_on}
use Rattle.lb_words.specs.declared.job.Job.{Job}
use Rattle.lb_words.specs.declared.job.Mode.{Mode}
use Rattle.lb_words.specs.declared.job.Mode.TheVariants as mode
use Rattle.lb_system.specs.declared.top.Ended.{Ended}
use Rattle.lb_system.specs.RunReport.{isa_report}
use Rattle.lb_system.specs.MachineReport.{IsMachineReport, IsLampReport}
use Rattle.lb_system.specs.Questions.{SaysReplies, SaysFrames, SaysLog, source}
use Rattle.lb_system.specs.Request.{IsRequest}
use Rattle.lb_system.specs.Answers.{Port, HasReport, WritesReport, most_input, workers_of}
use Rattle.lb_system.specs.declared.crew.Workers.{Workers}

-- ---- the instruction-set machine

-- the first section of the input is the text of a program that keeps the rules, and the second says the
-- replies; the image that is shown is that program's; what was written is the report of the run of its
-- code for at most the job's number of instructions; and that run is one of the program
pub record RunsItsImage (job : Job) (source_port sink : Port) (e : Ended) : Type 0 where
  pub text : Text
  pub program : List Procedure
  pub replies : List ℕ
  pub image : Image
  pub read : ReadsAll source_port.old source_port.new text
  pub short : length text ≤ most_input
  pub accepted : IsAccepted program (source text)
  pub said : SaysReplies (section 1 text) replies
  pub shown : e.image ≡ Some image
  pub compiled : IsCompiled program image
  pub written : WritesReport sink e.fault (isa_report job replies image)
  pub runs : IsRunOfImage program image replies (isa image.code image.entry replies job.events)

-- ---- the machine

-- the log has as many entries as the job has events, or the core is halted; and each entry's worker is
-- one of those that fire
pub record IsFullLog (crew : Workers) (job : Job) (on : MachineJob) (log : List Entry)
    : Type 0 where
  pub ended : (length log ≡ job.events)
      ⊎ ((cause : Cause) × (halted_after on log ≡ Some cause))
  pub workers : All (λ e. e.worker < workers_of crew job) log

-- the log of each mode that has one: of `run` a full one, of `replay` the one that was read
abbrev pub IsLogOf : Workers → Mode → Job → Text → MachineJob → List Entry → Type 0
IsLogOf crew mode.Run job text on log = IsFullLog crew job on log
IsLogOf crew mode.Replay job text on log = SaysLog (section 2 text) log
IsLogOf crew _ job text on log = ⊥

-- in these modes the source's program runs on the machine
abbrev pub RunsMachine : Mode → Type 0
RunsMachine m = (m ≡ mode.Run) ⊎ (m ≡ mode.Replay)

-- the first section of the input is the text of a program that keeps the rules, and the second says the
-- frames; the image that is shown is that program's; the log that is shown is legal for the machine that
-- runs this image while these frames arrive, and is that of the mode; what was written is the report of
-- the machine after this log; and that is a run of the program
pub record RunsItsMachine (crew : Workers) (job : Job) (source_port sink : Port) (e : Ended)
    : Type 0 where
  pub text : Text
  pub program : List Procedure
  pub frames : List FrameContent
  pub image : Image
  pub read : ReadsAll source_port.old source_port.new text
  pub short : length text ≤ most_input
  pub accepted : IsAccepted program (source text)
  pub said : SaysFrames (section 1 text) frames
  pub shown : e.image ≡ Some image
  pub compiled : IsCompiled program image
  pub legal : IsLegal (job_on image frames) e.log.items
  pub made : IsLogOf crew job.mode job text (job_on image frames) e.log.items
  pub report : Text
  pub told : IsMachineReport job (job_on image frames) e.log.items report
  pub written : WritesReport sink e.fault report
  pub runs : IsRunOnMachine program image frames e.log.items

-- ---- the lamp

-- the only section of the input says the frames; the image that is shown is that of the supplied
-- program; the log that is shown is legal for the machine that runs this image while these frames
-- arrive, and is full; what was written is the report of the machine after this log; and that is a run
-- of the supplied program, which keeps to the lamp's grammar and isn't halted
pub record RunsTheLamp (crew : Workers) (job : Job) (source_port sink : Port) (e : Ended)
    : Type 0 where
  pub text : Text
  pub frames : List FrameContent
  pub image : Image
  pub read : ReadsAll source_port.old source_port.new text
  pub short : length text ≤ most_input
  pub said : SaysFrames (section 0 text) frames
  pub shown : e.image ≡ Some image
  pub compiled : IsCompiled supplied image
  pub legal : IsLegal (job_on image frames) e.log.items
  pub full : length e.log.items ≡ job.events
  pub made : IsFullLog crew job (job_on image frames) e.log.items
  pub report : Text
  pub told : IsLampReport job (job_on image frames) e.log.items report
  pub written : WritesReport sink e.fault report
  pub runs : IsRunOnMachine supplied image frames e.log.items
  pub lamp : IsRunOfLamp image frames e.log.items

-- ---- all of them

-- where the words ask for a mode that runs code, and there is a report, it is that of a run of the
-- program in question: in `isa` of its code, in `run` and `replay` of the machine, in `lamp` of the
-- supplied program on the machine
pub record RunsRightly (crew : Workers) (words : List Text) (source_port sink : Port) (e : Ended)
    : Type 0 where
  pub isa : (job : Job) → IsRequest words job → job.mode ≡ mode.Isa → HasReport e.fault
      → RunsItsImage job source_port sink e
  pub machine : (job : Job) → IsRequest words job → RunsMachine job.mode → HasReport e.fault
      → RunsItsMachine crew job source_port sink e
  pub lamp : (job : Job) → IsRequest words job → job.mode ≡ mode.Lamp → HasReport e.fault
      → RunsTheLamp crew job source_port sink e
