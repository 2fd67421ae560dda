use Rattle.std.proofs.Common.{◌≡◌, ◌+◌, drop, map}
use Rattle.lb_syntax.specs.Tree.{procedure_of}
use Rattle.lb_syntax.specs.Rules.{function_names}
use Rattle.lb_flat.specs.Flattened.{place_in}
use Rattle.lb_flat.proofs.scope.place_of_function.Given as goal

-- none so far: the place counts on into the rest
abbrev pub invariant-loop-f : goal.invariant-loop-f
invariant-loop-f l = record {
  at : l.place ≡ l.f-index;
  found : l.place + place_in (function_names (map procedure_of (drop l.f-index l.functions))) l.name ≡ place_in (function_names (map procedure_of l.functions)) l.name;
}
