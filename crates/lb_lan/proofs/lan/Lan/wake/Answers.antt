use Rattle.lb_lan.proofs.PhaseLemmas.{wakes}
use Rattle.lb_lan.proofs.lan.Lan.wake.Goals as goal

pub returns-clause-list : goal.returns-clause-list
returns-clause-list c = rw (c.set_awake.ensures) (wakes c.args.self.now)
