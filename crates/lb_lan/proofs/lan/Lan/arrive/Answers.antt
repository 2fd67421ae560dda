use Rattle.lb_lan.proofs.PhaseLemmas.{receives}
use Rattle.lb_lan.proofs.lan.Lan.arrive.Goals as goal

pub returns-clause-list : goal.returns-clause-list
returns-clause-list c = rw (c.receive.ensures) (receives c.args.self.now c.args.frame.now)
