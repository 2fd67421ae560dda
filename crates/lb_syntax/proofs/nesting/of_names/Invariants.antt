use Rattle.std.proofs.Common.{◌≡◌, drop}
use Rattle.std.specs.List.{AllByRecursion}
use Rattle.lb_syntax.specs.Names.{IsName}
use Rattle.lb_syntax.proofs.nesting.of_names.Given as goal

-- no brackets so far, and all are names if the rest are
abbrev pub invariant-loop-name : goal.invariant-loop-name
invariant-loop-name l = record {
  counted : l.most ≡ 0;
  well_formed : AllByRecursion IsName (drop l.name-index l.names) → AllByRecursion IsName l.names;
}
