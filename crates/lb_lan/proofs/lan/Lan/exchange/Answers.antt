use Rattle.lb_lan.proofs.PhaseLemmas.{takes_byte, answers}
use Rattle.lb_lan.proofs.lan.Lan.exchange.Goals as goal

pub returns-clause-list : goal.returns-clause-list
returns-clause-list c = rw (c.take_byte.ensures.phase) (takes_byte c.args.self.now c.args.byte)

pub returns-clause-answer_of_list : goal.returns-clause-answer_of_list
returns-clause-answer_of_list c = rw (c.take_byte.ensures.answer) (answers c.args.self.now c.args.byte)
