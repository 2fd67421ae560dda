use Rattle.std.proofs.Common.{◌≡◌}
use Rattle.lb_flat.specs.Calls.{callees}
use Rattle.lb_flat.specs.Placed.{placed_block}
use Rattle.lb_emit.specs.InternalFrame.{is_any}
use Rattle.lb_emit.proofs.Rest.{rest}
use Rattle.lb_emit.proofs.sets.+calls.Given as goal

-- none so far
abbrev pub invariant-block_calls-loop-c : goal.invariant-block_calls-loop-c
invariant-block_calls-loop-c l = is_any (callees (rest l.c-items l.c-index)) ≡ is_any (callees (placed_block l.block))
