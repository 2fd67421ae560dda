use Rattle.std.proofs.Common.{◌≡◌, ℕ, ◌||◌, ◌<◌, ◌≤◌}
use Rattle.lb_alloc.specs.InternalSets.{has}
use Rattle.lb_alloc.proofs.variables.join_bits.Given as goal

abbrev pub invariant-loop-i : goal.invariant-loop-i
invariant-loop-i l =
    ((x : ℕ) → x < l.i → has l.set x ≡ (has l.other x || has l.initial.set x))
    × ((x : ℕ) → l.i ≤ x → has l.set x ≡ has l.initial.set x)
