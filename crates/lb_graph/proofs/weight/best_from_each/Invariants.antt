use Rattle.lb_graph.proofs.BestLemmas.{IsBestUpTo}
use Rattle.lb_graph.proofs.weight.best_from_each.Given as goal

abbrev pub invariant-loop-round : goal.invariant-loop-round
invariant-loop-round l = IsBestUpTo l.graph.calls l.weights l._round l.best.items
