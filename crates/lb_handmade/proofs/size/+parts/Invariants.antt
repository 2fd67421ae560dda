use Rattle.std.proofs.Common.{◌≡◌, ◌+◌}
use Rattle.lb_syntax.specs.Tree.{block_of}
use Rattle.lb_syntax.proofs.BlockLemmas.{rest}
use Rattle.lb_check.specs.Parts.{body_parts}
use Rattle.lb_handmade.proofs.size.+parts.Given as goal

-- what is left, and what is still to take, is the room
abbrev pub invariant-after_block-loop-c : goal.invariant-after_block-loop-c
invariant-after_block-loop-c l = l.left + body_parts (block_of l.block) ≡ l.room + body_parts (rest l.c-items l.c-index)
