use Rattle.lb_board.proofs.ScriptLemmas.{tells_script}
use Rattle.lb_board.proofs.board.Board.frames.Goals as goal

pub returns-clause-list : goal.returns-clause-list
returns-clause-list c = rw (c.whole_script.ensures.value) (tells_script c.args.self.now)
