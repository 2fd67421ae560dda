use Rattle.lb_graph.specs.InternalBest.{IsStep}
use Rattle.lb_graph.proofs.weight.one_edge_more.Given as goal

abbrev pub invariant-loop-node : goal.invariant-loop-node
invariant-loop-node l = IsStep l.graph.calls l.weights l.best l.node l.next.items
