use Rattle.std.proofs.Common.{◌≡◌, ℕ, ◌<◌, length, get_or}
use Rattle.lb_flat.specs.declared.places.Place.{Place}
use Rattle.lb_alloc.specs.InternalOwn.{own_place}
use Rattle.lb_alloc.proofs.allocation.own_places.Given as goal

abbrev pub invariant-loop-x : goal.invariant-loop-x
invariant-loop-x l = (length l.places.items ≡ l.x) × ((x : ℕ) (d : Place) → x < l.x → get_or l.places.items x d ≡ own_place x)
