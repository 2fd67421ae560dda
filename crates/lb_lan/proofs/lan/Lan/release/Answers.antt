use Rattle.lb_lan.proofs.PhaseLemmas.{releases}
use Rattle.lb_lan.proofs.lan.Lan.release.Goals as goal

pub returns-clause-list : goal.returns-clause-list
returns-clause-list c = rw (c.end_transaction.ensures) (releases c.args.self.now)
