use Rattle.std.proofs.Common.{◌≡◌, drop, map}
use Rattle.lb_syntax.specs.Tree.{procedure_of}
use Rattle.lb_check.specs.Faults.{has_misfit}
use Rattle.lb_check.proofs.lookup.has_misfit.Given as goal

-- none so far: there is one among all if there is one among the rest
abbrev pub invariant-loop-f : goal.invariant-loop-f
invariant-loop-f l = has_misfit (map procedure_of (drop l.f-index l.functions)) l.name l.arguments l.targets ≡ has_misfit (map procedure_of l.functions) l.name l.arguments l.targets
