-- What a machine is booted with, and what it holds.
use Rattle.std.specs.Prelude.{ℕ, List, []}
use Rattle.lb_trace.specs.declared.Event.{Event}
use Rattle.lb_trace.specs.Frame.{FrameContent}
use Rattle.lb_core.specs.State.{CoreState}
use Rattle.lb_core.specs.Rows.{booted_core}
use Rattle.lb_lan.specs.Phases.{LanView}
use Rattle.lb_lan.specs.Transaction.{LanState}
use Rattle.lb_board.specs.Registers.{BoardOf}
use Rattle.lb_board.specs.Steps.{booted}
use Rattle.lb_board.specs.Steps.{view_of as board_view_of}

-- a job: the code's words, the byte address at which it is entered, and the frames that are to
-- arrive
pub record Job : Type 0 where
  pub code : List ℕ
  pub entry : ℕ
  pub frames : List FrameContent

abbrev pub job_of : List ℕ → ℕ → List FrameContent → Job
job_of code entry frames = record { code = code; entry = entry; frames = frames }

-- a machine: its core, its board, and the accesses of devices so far; the network chip is told by a
-- value of type L
pub record MachineOf (L : Type 0) : Type 0 where
  pub core : CoreState
  pub board : BoardOf L
  pub trace : List Event

-- a machine whose network chip is told by the bytes of its transaction
abbrev pub MachineState : Type 0
MachineState = MachineOf LanState

-- a machine before its first step
abbrev pub booted_machine : Job → MachineState
booted_machine job = record {
  core = booted_core job.code job.entry;
  board = booted job.frames;
  trace = [];
}

-- a machine whose network chip is told by the phase of its transaction
abbrev pub MachineView : Type 0
MachineView = MachineOf LanView

abbrev pub view_of : MachineState → MachineView
view_of s = record { core = s.core; board = board_view_of s.board; trace = s.trace }
