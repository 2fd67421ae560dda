use Rattle.lb_board.proofs.RowLemmas.{shifts_in}
use Rattle.lb_board.proofs.board.Board.answer.Goals as goal

pub returns-clause-list : goal.returns-clause-list
returns-clause-list c = rw (c.byte_back.ensures) (shifts_in c.args.self.now)
