use Rattle.std.proofs.Common.{◌≡◌}
use Rattle.lb_flat.specs.Placed.{placed_block}
use Rattle.lb_emit_laws.specs.Frames.{sets_in}
use Rattle.lb_emit.proofs.Rest.{rest}
use Rattle.lb_emit.proofs.sets.+sets.Given as goal

-- none so far
abbrev pub invariant-block_sets-loop-c : goal.invariant-block_sets-loop-c
invariant-block_sets-loop-c l = sets_in (rest l.c-items l.c-index) l.register ≡ sets_in (placed_block l.block) l.register
