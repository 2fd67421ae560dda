use Rattle.std.proofs.Common.{◌↔◌, drop}
use Rattle.lb_flat.specs.Located.{place_of}
use Rattle.lb_alloc.specs.InternalSets.{AreAllApart}
use Rattle.lb_alloc.proofs.separation.are_apart.Given as goal

abbrev pub invariant-loop-variable : goal.invariant-loop-variable
invariant-loop-variable l =
    AreAllApart (place_of l.places) (drop l.variable-index l.sets) l.behind ↔ AreAllApart (place_of l.places) l.sets l.behind
