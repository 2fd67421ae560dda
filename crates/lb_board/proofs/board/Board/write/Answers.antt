use Rattle.lb_board.specs.Steps.{Writes}
use Rattle.lb_board.proofs.RowLemmas.{does}
use Rattle.lb_board.proofs.board.Board.write.Goals as goal

pub returns-clause-list : goal.returns-clause-list
returns-clause-list c = rw (c.after_write.ensures, c.register_at.ensures) (does (Writes c.args.addr c.args.value) c.args.self.now)
