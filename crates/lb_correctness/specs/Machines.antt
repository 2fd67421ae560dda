-- What the machine, its core and its board together, has to do with a program whose image it runs.
use Rattle.std.specs.Prelude.{◌≡◌, ℕ, ◌+◌, ◌*◌, ◌≤◌, List, length, None}
use Rattle.lb_trace.specs.declared.Entry.{Entry}
use Rattle.lb_trace.specs.declared.Event.{Event}
use Rattle.lb_trace.specs.Frame.{FrameContent}
use Rattle.lb_trace.specs.Prefix.{IsPrefix}
use Rattle.lb_trace.specs.Trace.{reply_values}
use Rattle.lb_syntax.specs.Tree.{Procedure}
use Rattle.lb_syntax.specs.Needs.{code_need}
use Rattle.lb_source.specs.Correct.{AreWords}
use Rattle.lb_source.specs.Defined.{IsDefined}
use Rattle.lb_source.specs.Source.{src}
use Rattle.lb_source.specs.declared.ends.SourceRun.{SourceRun}
use Rattle.lb_isa.specs.State.{RunState}
use Rattle.lb_isa.specs.Runs.{isa}
use Rattle.lb_core.specs.Rows.{done_of}
use Rattle.lb_image.specs.declared.image.Image.{Image}
use Rattle.lb_machine.specs.State.{Job, job_of}
use Rattle.lb_machine.specs.Logs.{replay}
use Rattle.lb_machine.specs.Refusals.{halted_after}
use Rattle.lb_grammar.specs.Forms.{Begins}
use Rattle.lb_grammar.specs.Grammar.{good}
use Rattle.lb_bulb.specs.Supplied.{supplied}
use Rattle.lb_correctness.specs.Images.{IsRunOfImage}

-- the machine's job: to run the image, while these frames arrive
abbrev pub job_on : Image → List FrameContent → Job
job_on i frames = job_of i.code i.entry frames

-- ---- what a log comes to

-- what was done to devices
abbrev pub trace_after : Job → List Entry → List Event
trace_after job log = (replay job log).trace

-- what the devices replied
abbrev pub replies_after : Job → List Entry → List ℕ
replies_after job log = reply_values (trace_after job log)

-- how many instructions are done
abbrev pub done_after : Job → List Entry → ℕ
done_after job log = done_of (replay job log).core

-- the run of as many instructions, one after the other, with the same replies
abbrev pub run_after : Job → List Entry → RunState
run_after job log = isa job.code job.entry (replies_after job log) (done_after job log)

-- the program's run with this fuel, the image's layout and the machine's replies
abbrev pub source_with : List Procedure → Image → List FrameContent → List Entry → ℕ → SourceRun
source_with p i frames log fuel = src p i.layout fuel (replies_after (job_on i frames) log)

-- the program's run with as much fuel as instructions are done
abbrev pub source_after : List Procedure → Image → List FrameContent → List Entry → SourceRun
source_after p i frames log = source_with p i frames log (done_after (job_on i frames) log)

-- ---- any program

-- the machine with the image, after this log, and the program
pub record IsRunOnMachine (p : List Procedure) (i : Image) (frames : List FrameContent)
    (log : List Entry) : Type 0 where
  -- the devices replied words
  pub replied : AreWords (replies_after (job_on i frames) log)
  -- the instruction-set machine, with the machine's replies, commits as many instructions as the
  -- machine has done, and does the same to devices
  pub commits : (run_after (job_on i frames) log).committed ≡ done_after (job_on i frames) log
  pub trace : (run_after (job_on i frames) log).trace ≡ trace_after (job_on i frames) log
  -- and that is a run of the program's image
  pub run : IsRunOfImage p i (replies_after (job_on i frames) log) (run_after (job_on i frames) log)
  -- so where the program does nothing undefined with as much fuel, what the machine did to devices
  -- is the beginning of what the program does, and the core isn't halted
  pub agrees : IsDefined (source_after p i frames log).end
      → IsPrefix (trace_after (job_on i frames) log) (source_after p i frames log).trace
  pub runs : IsDefined (source_after p i frames log).end
      → halted_after (job_on i frames) log ≡ None
  -- and what the program does with fuel f, if nothing is undefined, is the beginning of what the
  -- machine did, where it has done at least f + 1 times as many instructions as the program asks
  -- for words
  pub comes : (f : ℕ) → (f + 1) * code_need p ≤ done_after (job_on i frames) log
      → IsDefined (source_with p i frames log f).end
      → IsPrefix (source_with p i frames log f).trace (trace_after (job_on i frames) log)
  -- the log has at most 20 entries for each instruction that is done, and 60, and one for each
  -- frame; and at least four for each access of a device
  pub bounded : length log ≤ 20 * done_after (job_on i frames) log + 60 + length frames
  pub few : 4 * length (trace_after (job_on i frames) log) ≤ length log

-- ---- the supplied program

-- the machine with the supplied program's image, after this log: what it did to devices is a prefix
-- of a trace of the lamp's grammar, and the beginning of what the program does with as much fuel as
-- instructions are done; its core isn't halted; and what the program does with fuel f is the
-- beginning of what the machine did, where it has done at least f + 1 times as many instructions as
-- the program asks for words
pub record IsRunOfLamp (i : Image) (frames : List FrameContent) (log : List Entry) : Type 0 where
  pub begins : Begins good (trace_after (job_on i frames) log)
  pub agrees : IsPrefix (trace_after (job_on i frames) log) (source_after supplied i frames log).trace
  pub runs : halted_after (job_on i frames) log ≡ None
  pub comes : (f : ℕ) → (f + 1) * code_need supplied ≤ done_after (job_on i frames) log
      → IsPrefix (source_with supplied i frames log f).trace (trace_after (job_on i frames) log)
