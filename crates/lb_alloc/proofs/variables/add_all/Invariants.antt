use Rattle.std.proofs.Common.{◌≡◌, ℕ, ◌||◌, length, drop, All}
use Rattle.lb_flat.specs.Order.{IsVariable}
use Rattle.lb_flat.specs.Walks.{among}
use Rattle.lb_alloc.specs.InternalSets.{has}
use Rattle.lb_alloc.proofs.variables.add_all.Given as goal

abbrev pub invariant-loop-x : goal.invariant-loop-x
invariant-loop-x l =
    All (IsVariable (length l.set)) l.variables
    × ((x : ℕ) → (among (drop l.x-index l.variables) x || has l.set x) ≡ (among l.variables x || has l.initial.set x))
