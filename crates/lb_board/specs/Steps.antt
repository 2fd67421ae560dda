-- The board as a function of all that was done to it.
use Rattle.std.specs.Prelude.{ℕ, Bool, true, false, List, [], ◌∷◌, length, filter}
use Rattle.lb_trace.specs.declared.Kind.{Kind}
use Rattle.lb_trace.specs.declared.Kind.TheVariants.{Arrive}
use Rattle.lb_trace.specs.Frame.{FrameContent}
use Rattle.lb_lan.specs.Transaction.{LanState, new_lan}
use Rattle.lb_lan.specs.Phases.{LanView}
use Rattle.lb_lan.specs.Phases.{view_of as lan_view_of}
use Rattle.lb_board.specs.Registers.{BoardOf, register_at, read_in}
use Rattle.lb_board.specs.Rows.{ChipRows, by_bytes, written_in, acted}

-- an access of the word at an address, or an action of the board's own
pub data Step : Type 0 where
  Reads : ℕ → Step
  Writes : ℕ → ℕ → Step
  Acts : Kind → Step

abbrev pub stepped : {L : Type 0} → ChipRows L → Step → BoardOf L → BoardOf L
stepped rows (Reads a) s = read_in (register_at a) s
stepped rows (Writes a v) s = written_in rows (register_at a) v s
stepped rows (Acts k) s = acted rows k s

-- what a `Board` stands for
abbrev pub BoardState : Type 0
BoardState = BoardOf LanState

-- at boot, with the frames that are to arrive
abbrev pub booted : List FrameContent → BoardState
booted fs = record {
  output_en = 0;
  output_val = 0;
  iof_en = 0;
  csmode = 0;
  send_fifo = [];
  receive_fifo = [];
  lan = new_lan;
  frames = fs;
  arrived = 0;
}

-- after these steps, one after the other
abbrev pub after_steps : List Step → BoardState → BoardState
after_steps [] s = s
after_steps (x ∷ xs) s = after_steps xs (stepped by_bytes x s)

-- the board that was booted with these frames and to which this was done
abbrev pub board : List FrameContent → List Step → BoardState
board fs xs = after_steps xs (booted fs)

-- the steps that are an arrival
abbrev pub is_arrival : Step → Bool
is_arrival (Acts Arrive) = true
is_arrival x = false

-- how many frames arrived in these steps
abbrev pub arrivals : List Step → ℕ
arrivals xs = length (filter is_arrival xs)

-- ---- what contracts see in a `Board`

abbrev pub BoardView : Type 0
BoardView = BoardOf LanView

abbrev pub view_of : BoardState → BoardView
view_of s = record {
  output_en = s.output_en;
  output_val = s.output_val;
  iof_en = s.iof_en;
  csmode = s.csmode;
  send_fifo = s.send_fifo;
  receive_fifo = s.receive_fifo;
  lan = lan_view_of s.lan;
  frames = s.frames;
  arrived = s.arrived;
}
