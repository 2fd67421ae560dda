use Rattle.std.proofs.Common.{◌≡◌, drop, map}
use Rattle.lb_syntax.specs.Names.{is_among}
use Rattle.lb_syntax.specs.Tree.{procedure_of}
use Rattle.lb_syntax.specs.Rules.{function_names}
use Rattle.lb_check.proofs.lookup.has_function.Given as goal

-- none so far: it is among all if it is among the rest
abbrev pub invariant-loop-f : goal.invariant-loop-f
invariant-loop-f l = is_among (function_names (map procedure_of (drop l.f-index l.functions))) l.name ≡ is_among (function_names (map procedure_of l.functions)) l.name
