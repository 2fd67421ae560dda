use Rattle.lb_source.specs.InternalMachine.{functions_of}
use Rattle.lb_source.proofs.EverFacts.{LeavesEver}
use Rattle.lb_source.proofs.whole.run_for_ever.Given as goal

abbrev pub invariant-again : goal.invariant-again
invariant-again l = LeavesEver (functions_of l.interpreter) l.initial.m l.m

abbrev pub decreases-again : goal.decreases-again
decreases-again l = l.m.fuel
