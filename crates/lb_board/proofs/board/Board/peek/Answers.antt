use Rattle.lb_board.proofs.PinLemmas.{tells_last_written}
use Rattle.lb_board.proofs.board.Board.peek.Goals as goal

pub returns-clause-pins : goal.returns-clause-pins
returns-clause-pins c = rw (c.value.ensures, c.register_at.ensures) (tells_last_written c.args.self.now c.args.addr)
