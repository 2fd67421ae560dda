use Rattle.std.proofs.Common.{◌≡◌, ◌++◌, drop, map}
use Rattle.std.specs.List.{AllByRecursion}
use Rattle.lb_syntax.specs.Names.{IsName}
use Rattle.lb_flat.specs.Flattened.{place_in}
use Rattle.lb_flat.proofs.scope.Scope.numbers.Given as goal

-- the numbers so far, and those of what is left, are all; all are names if the rest are
abbrev pub invariant-loop-name : goal.invariant-loop-name
invariant-loop-name l =
    let left = drop l.name-index l.names in
    record {
      made : l.numbers ++ map (place_in l.self.names) left ≡ map (place_in l.self.names) l.names;
      well_formed : AllByRecursion IsName left → AllByRecursion IsName l.names;
    }
