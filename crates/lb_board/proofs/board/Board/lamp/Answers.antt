use Rattle.lb_board.proofs.PinLemmas.{shines}
use Rattle.lb_board.proofs.board.Board.lamp.Goals as goal

pub returns-clause-list : goal.returns-clause-list
returns-clause-list c = rw (c.is_lit.ensures) (shines c.args.self.now)
