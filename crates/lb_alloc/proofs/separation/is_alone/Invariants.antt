use Rattle.std.proofs.Common.{◌≡◌, ◌≢◌, ℕ, ◌<◌, true}
use Rattle.lb_flat.specs.Located.{place_of}
use Rattle.lb_alloc.specs.InternalSets.{has}
use Rattle.lb_alloc.proofs.separation.is_alone.Given as goal

abbrev pub invariant-loop-x : goal.invariant-loop-x
invariant-loop-x l = (x : ℕ) → x < l.x → has l.behind x ≡ true → l.variable ≢ x → place_of l.places l.variable ≢ place_of l.places x
