-- What contracts see in a `Machine`.
use Rattle.std.specs.Prelude.{◌≡◌, ◌≤◌, ℕ, List, [], length}
use Rattle.lb_trace.specs.declared.Entry.{Entry}
use Rattle.lb_trace.specs.declared.Event.{Event}
use Rattle.lb_trace.specs.declared.Kind.{Kind}
use Rattle.lb_isa.specs.Runs.{IsBootable}
use Rattle.lb_core.specs.State.{CoreContent, state_of}
use Rattle.lb_board.specs.Rows.{by_phase}
use Rattle.lb_board.specs.Script.{IsScript}
use Rattle.lb_board.specs.Steps.{BoardView}
use Rattle.lb_machine.specs.State.{Job, MachineState, MachineView, view_of}
use Rattle.lb_machine.specs.Logs.{HaveWorkers, IsLegal, most_entries, replay}
use Rattle.lb_machine.specs.Rows.{after}
use Rattle.lb_machine.specs.Refusals.{FixedContent}

-- what never changes, the log, and what the machine holds: its core, its board, and the accesses of
-- devices so far
pub record MachineContent : Type 0 where
  pub fixed : FixedContent
  pub log : List Entry
  pub core : CoreContent
  pub board : BoardView
  pub trace : List Event

-- the state that it holds
abbrev pub state_in : MachineContent → MachineView
state_in m = record { core = state_of m.core; board = m.board; trace = m.trace }

-- the machine that its log replays to
abbrev pub replayed : MachineContent → MachineState
replayed m = replay m.fixed.job m.log

-- a job that a machine can be booted with
pub record IsJob (job : Job) : Type 0 where
  pub code : IsBootable job.code job.entry
  pub frames : IsScript job.frames

-- the job can be booted, the log is legal for it and no longer than it may be, its entries are of
-- workers 0 to 7, and what the machine holds is the replay
pub record IsReplay (m : MachineContent) : Type 0 where
  pub job : IsJob m.fixed.job
  pub legal : IsLegal m.fixed.job m.log
  pub fits : length m.log ≤ m.fixed.max_events
  pub most : m.fixed.max_events ≤ most_entries
  pub workers : HaveWorkers m.log
  pub state : state_in m ≡ view_of (replayed m)

-- it holds what comes of a kind that is fired
abbrev pub IsAfter : Kind → MachineContent → MachineContent → Type 0
IsAfter kind old new = state_in new ≡ after by_phase (state_in old) kind

-- it has this job, may have so many entries, and has made none
abbrev pub IsBooted : Job → ℕ → MachineContent → Type 0
IsBooted job max_events m =
    (m.fixed ≡ record { job = job; max_events = max_events }) × (m.log ≡ [])

-- it has this job and this log, and may have no further entry
abbrev pub IsReplayOf : Job → List Entry → MachineContent → Type 0
IsReplayOf job log m = (m.fixed ≡ record { job = job; max_events = length log }) × (m.log ≡ log)
