use Rattle.std.proofs.Common.{◌≡◌, ◌++◌, drop, map}
use Rattle.lb_syntax.specs.Tree.{procedure_of}
use Rattle.lb_check.specs.InternalCallGraph.{called, call_graph}
use Rattle.lb_check.proofs.call_graph.graph_of.Given as goal

-- the rows so far, and those of what is left, are the graph
abbrev pub invariant-loop-f : goal.invariant-loop-f
invariant-loop-f l =
    let p = map procedure_of l.functions in
    l.calls ++ map (λ f. called p f.body) (map procedure_of (drop l.f-index l.functions)) ≡ call_graph p
