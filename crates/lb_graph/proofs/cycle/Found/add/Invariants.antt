use Rattle.std.proofs.Common.{take}
use Rattle.lb_graph.specs.InternalSearch.{Adds}
use Rattle.lb_graph.proofs.cycle.Found.add.Given as goal

abbrev pub invariant-loop-node : goal.invariant-loop-node
invariant-loop-node l =
    Adds (take l.node-index l.calls) l.initial.self.marks.items l.initial.self.order.items l.self.marks.items l.self.order.items
