use Rattle.std.proofs.Common.{◌≡◌, ℕ, ◌≤◌, length}
use Rattle.lb_flat.specs.Liveness.{live}
use Rattle.lb_alloc.specs.InternalSets.{has, NamesVariables}
use Rattle.lb_alloc.proofs.BlockLemmas.{rest}
use Rattle.lb_alloc.proofs.liveness.+live.Given as goal

abbrev pub invariant-live_block-loop-i : goal.invariant-live_block-loop-i
invariant-live_block-loop-i l =
    (l.i ≤ length l.commands) × (length l.set ≡ length l.initial.set)
    × NamesVariables (length l.set) (rest l.commands 0)
    × ((x : ℕ) → has l.set x ≡ live x (rest l.commands l.i) (has l.initial.set x))

abbrev pub decreases-live_block-loop-i : goal.decreases-live_block-loop-i
decreases-live_block-loop-i l = l.i
