use Rattle.lb_scan.proofs.Fronts.{ended_fault}
use Rattle.lb_scan.proofs.Refused.{ended_refused}
use Rattle.lb_scan.proofs.scanner.scan.Goals as goal

pub returns-in-None-clause-fault : goal.returns-in-None-clause-fault
returns-in-None-clause-fault c = ended_fault c.args.expected c.args.depth c.args.bytes.now c.requires.depth (rw c.in-None.is at c.in_ok-found.ensures.found) c.requires.more

pub returns-in-None-clause-refused : goal.returns-in-None-clause-refused
returns-in-None-clause-refused c = ended_refused c.args.expected c.args.depth c.args.bytes.now (rw c.in-None.is at c.in_ok-found.ensures.found)
