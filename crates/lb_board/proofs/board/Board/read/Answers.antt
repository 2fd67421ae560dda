use Rattle.lb_board.specs.Steps.{Reads}
use Rattle.lb_board.proofs.RowLemmas.{does}
use Rattle.lb_board.proofs.PinLemmas.{tells_last_written}
use Rattle.lb_board.proofs.board.Board.read.Goals as goal

pub returns-clause-list : goal.returns-clause-list
returns-clause-list c = rw (c.after_read.ensures, c.register_at-2.ensures) (does (Reads c.args.addr) c.args.self.now)

pub returns-clause-pins : goal.returns-clause-pins
returns-clause-pins c = rw (c.value-value.ensures, c.register_at.ensures) (tells_last_written c.args.self.now c.args.addr)
