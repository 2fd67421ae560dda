use Rattle.std.proofs.Common.{◌≡◌, ◌↔◌, ℕ, ◌≤◌, length, IsTrue}
use Rattle.lb_flat.specs.Flat.{flat_block}
use Rattle.lb_flat.specs.Located.{place_of}
use Rattle.lb_flat.specs.Liveness.{live}
use Rattle.lb_alloc.specs.InternalSets.{has, NamesVariables, IsAllApart}
use Rattle.lb_alloc.proofs.BlockLemmas.{rest}
use Rattle.lb_alloc.proofs.separation.+apart.Given as goal

abbrev pub invariant-is_block_apart-loop-i : goal.invariant-is_block_apart-loop-i
invariant-is_block_apart-loop-i l =
    (l.i ≤ length l.commands) × (length l.set ≡ length l.initial.set)
    × (flat_block l.block ≡ rest l.commands 0)
    × NamesVariables (length l.set) (rest l.commands 0)
    × ((x : ℕ) → has l.set x ≡ live x (rest l.commands l.i) (has l.initial.set x))
    × (IsTrue l.apart ↔ IsAllApart (place_of l.places) (rest l.commands l.i) l.initial.set)

abbrev pub decreases-is_block_apart-loop-i : goal.decreases-is_block_apart-loop-i
decreases-is_block_apart-loop-i l = l.i
