use Rattle.lb_alloc.proofs.ServedLemmas.{served_accepted, served_registers}
use Rattle.lb_alloc.proofs.allocation.allocate.Goals as goal

pub returns-clause-accepted : goal.returns-clause-accepted
returns-clause-accepted c = served_accepted c.args.flat.now.functions c.in_ok-functions.functions c.in_ok-functions.ensures

pub returns-clause-registers : goal.returns-clause-registers
returns-clause-registers c = served_registers c.args.flat.now.functions c.in_ok-functions.functions c.in_ok-functions.ensures
