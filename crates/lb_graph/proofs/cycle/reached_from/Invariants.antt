use Rattle.std.proofs.Common.{length, ◌-◌}
use Rattle.lb_graph.proofs.SearchLemmas.{IsSearch}
use Rattle.lb_graph.proofs.cycle.reached_from.Given as goal

abbrev pub invariant-loop-at : goal.invariant-loop-at
invariant-loop-at l = IsSearch l.graph.calls l.start l.at l.found.marks.items l.found.order.items

abbrev pub decreases-loop-at : goal.decreases-loop-at
decreases-loop-at l = length l.graph.calls - l.at
