use Rattle.std.proofs.Common.{◌≡◌, ◌++◌, drop, map}
use Rattle.std.specs.List.{AllByRecursion}
use Rattle.lb_flat.specs.declared.places.FunctionPlaces.{FunctionPlaces}
use Rattle.lb_flat.specs.Flat.{flat_routine}
use Rattle.lb_flat.specs.Placed.{placed_routine}
use Rattle.lb_flat.specs.Accepted.{AreAllAccepted}
use Rattle.lb_spill.specs.InternalSpill.{all_spilled, NamesOwn}
use Rattle.lb_spill.proofs.placing.place_functions.Given as goal

-- the functions so far, and those of what is left, are all
abbrev pub invariant-loop-i : goal.invariant-loop-i
invariant-loop-i l =
    let left = map flat_routine (drop l.i l.functions) in
    let left_lists = map (λ (f : FunctionPlaces). f.places) (drop l.i l.lists) in
    record {
      names : AllByRecursion NamesOwn left;
      accepted : AreAllAccepted left left_lists;
      made : map placed_routine l.made ++ all_spilled left left_lists ≡ all_spilled (map flat_routine l.functions) (map (λ (f : FunctionPlaces). f.places) l.lists);
    }
