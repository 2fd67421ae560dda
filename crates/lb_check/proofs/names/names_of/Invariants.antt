use Rattle.std.proofs.Common.{◌≡◌, ◌++◌, drop, map}
use Rattle.lb_syntax.specs.Tree.{procedure_of}
use Rattle.lb_syntax.specs.Rules.{function_names}
use Rattle.lb_check.proofs.names.names_of.Given as goal

-- the names so far, and those of what is left, are all
abbrev pub invariant-loop-f : goal.invariant-loop-f
invariant-loop-f l = l.names.items ++ function_names (map procedure_of (drop l.f-index l.functions)) ≡ function_names (map procedure_of l.functions)
