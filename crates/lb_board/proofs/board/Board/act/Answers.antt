use Rattle.lb_board.specs.Steps.{Acts}
use Rattle.lb_board.proofs.RowLemmas.{does}
use Rattle.lb_board.proofs.board.Board.act.Goals as goal

pub returns-clause-list : goal.returns-clause-list
returns-clause-list c = rw (c.perform.ensures) (does (Acts c.args.kind) c.args.self.now)
