-- For private contracts alone: a core and a board that are joined, without a log.
use Rattle.std.specs.Prelude.{◌≤◌, ◌<◌, ℕ, ◌/◌, List}
use Rattle.lb_trace.specs.declared.Entry.{Entry}
use Rattle.lb_trace.specs.declared.Event.{Event}
use Rattle.lb_trace.specs.Frame.{FrameContent}
use Rattle.lb_core.specs.Rows.{demanded}
use Rattle.lb_core.specs.State.{CoreContent, state_of}
use Rattle.lb_board.specs.Rows.{by_phase}
use Rattle.lb_board.specs.Steps.{BoardView}
use Rattle.lb_machine.specs.Machines.{IsReplay, MachineContent}
use Rattle.lb_machine.specs.Refusals.{FixedContent}
use Rattle.lb_machine.specs.Rows.{device_accessed}
use Rattle.lb_machine.specs.State.{Job, MachineView, booted_machine, job_of, view_of}

-- the core, the board, the accesses of devices so far, and for how many of them room is reserved
pub record SystemContent : Type 0 where
  pub core : CoreContent
  pub board : BoardView
  pub trace : List Event
  pub room : ℕ

abbrev pub system_state : SystemContent → MachineView
system_state s = record { core = state_of s.core; board = s.board; trace = s.trace }

-- before the first step
abbrev pub booted_view : Job → MachineView
booted_view job = view_of (booted_machine job)

-- after the access that waits
abbrev pub with_access : MachineView → MachineView
with_access s = device_accessed by_phase (demanded s.core) s

-- what never changes, of its parts
abbrev pub fixed_of : List ℕ → ℕ → List FrameContent → ℕ → FixedContent
fixed_of code entry frames max_events =
    record { job = job_of code entry frames; max_events = max_events }

-- what contracts see in a machine of these parts: the system, its job's entry, the most entries,
-- and the log
abbrev pub content_of : SystemContent → ℕ → ℕ → List Entry → MachineContent
content_of s entry max_events log = record {
  fixed = fixed_of s.core.code entry s.board.frames max_events;
  log = log;
  core = s.core;
  board = s.board;
  trace = s.trace;
}

-- what the type of a machine keeps: its log replays to it, and has room for all its entries, as the
-- trace has
pub record IsKept (s : SystemContent) (entry max_events : ℕ) (log : List Entry) (room : ℕ)
    : Type 0 where
  pub replay : IsReplay (content_of s entry max_events log)
  pub log_room : max_events ≤ room
  pub trace_room : max_events / 4 < s.room
