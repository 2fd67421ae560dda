use Rattle.lb_board.proofs.ScriptLemmas.{counts_arrivals}
use Rattle.lb_board.proofs.board.Board.arrived.Goals as goal

pub returns-clause-list : goal.returns-clause-list
returns-clause-list c = rw (c.arrived_so_far.ensures.value) (counts_arrivals c.args.self.now)
