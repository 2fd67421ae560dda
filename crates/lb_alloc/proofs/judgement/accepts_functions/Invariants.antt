use Rattle.std.proofs.Common.{◌↔◌, drop, map, List}
use Rattle.lb_flat.specs.declared.places.Place.{Place}
use Rattle.lb_flat.specs.declared.places.FunctionPlaces.{FunctionPlaces}
use Rattle.lb_flat.specs.Flat.{flat_routine}
use Rattle.lb_flat.specs.Accepted.{AreAllAccepted}
use Rattle.lb_alloc.proofs.judgement.accepts_functions.Given as goal

abbrev pub invariant-loop-i : goal.invariant-loop-i
invariant-loop-i l =
    let places : List FunctionPlaces → List (List Place) = map (λ (p : FunctionPlaces). p.places) in
    AreAllAccepted (map flat_routine (drop l.i l.functions)) (places (drop l.i l.lists)) ↔ AreAllAccepted (map flat_routine l.functions) (places l.lists)
