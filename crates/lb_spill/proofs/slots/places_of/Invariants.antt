use Rattle.std.proofs.Common.{◌≡◌, ◌++◌, drop, map, length}
use Rattle.std.specs.List.{AllByRecursion}
use Rattle.lb_flat.specs.Located.{place_of}
use Rattle.lb_flat.specs.Order.{IsVariable}
use Rattle.lb_spill.proofs.slots.places_of.Given as goal

-- the places so far, and those of what is left, are all
abbrev pub invariant-loop-variable : goal.invariant-loop-variable
invariant-loop-variable l =
    let left = drop l.variable-index l.variables in
    record {
      known : AllByRecursion (IsVariable (length l.places)) left;
      made : l.list ++ map (place_of l.places) left ≡ map (place_of l.places) l.variables;
    }
