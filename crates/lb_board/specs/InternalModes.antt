-- For private contracts alone: a change of the bus's mode.
use Rattle.std.specs.Prelude.{ℕ}
use Rattle.lb_board.specs.Rows.{by_phase, selected}
use Rattle.lb_board.specs.Steps.{BoardView}

-- the board in this mode of the bus; where the mode selects no chip, the transaction ends
abbrev pub with_mode : ℕ → BoardView → BoardView
with_mode mode s = record s { csmode = mode; lan = selected by_phase mode s.lan }
