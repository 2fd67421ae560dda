use Rattle.std.proofs.Common.{◌≡◌, ◌≤◌, length}
use Rattle.lb_alloc.specs.InternalSets.{NamesVariables}
use Rattle.lb_alloc.proofs.BlockLemmas.{rest}
use Rattle.lb_alloc.proofs.interference.+note.Given as goal

abbrev pub invariant-note_block-loop-i : goal.invariant-note_block-loop-i
invariant-note_block-loop-i l = (l.i ≤ length l.commands) × (length l.set ≡ length l.initial.set) × NamesVariables (length l.set) (rest l.commands 0)

abbrev pub decreases-note_block-loop-i : goal.decreases-note_block-loop-i
decreases-note_block-loop-i l = l.i
