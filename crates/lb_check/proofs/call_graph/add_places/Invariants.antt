use Rattle.std.proofs.Common.{◌≡◌, ◌++◌, drop, map}
use Rattle.lb_syntax.specs.Tree.{procedure_of}
use Rattle.lb_check.specs.InternalCallGraph.{places_from}
use Rattle.lb_check.proofs.call_graph.add_places.Given as goal

-- the places so far, and those of what is left, are all
abbrev pub invariant-loop-f : goal.invariant-loop-f
invariant-loop-f l = record {
  at : l.place ≡ l.f-index;
  found : l.nodes ++ places_from l.place (map procedure_of (drop l.f-index l.functions)) l.name ≡ l.fn.nodes ++ places_from 0 (map procedure_of l.functions) l.name;
}
