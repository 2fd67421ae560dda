use Rattle.lb_graph.specs.Paths.{NoneBelowOnCycle}
use Rattle.lb_graph.proofs.cycle.first_on_cycle.Given as goal

abbrev pub invariant-loop-v : goal.invariant-loop-v
invariant-loop-v l = NoneBelowOnCycle l.graph.calls l.v
