use Rattle.std.proofs.Common.{◌≡◌, ◌+◌, ◌*◌, ◌++◌, max, sum}
use Rattle.lb_flat.specs.declared.placed.PlacedCmd.{size-PlacedCmd}
use Rattle.lb_flat.specs.declared.placed.PlacedBlock.{size-PlacedBlock}
use Rattle.lb_flat.specs.Code.{sites}
use Rattle.lb_flat.specs.Placed.{placed_block}
use Rattle.lb_emit_laws.specs.Frames.{offsets_from}
use Rattle.lb_emit.proofs.Rest.{rest}
use Rattle.lb_emit.proofs.offsets.+offsets.Given as goal

abbrev pub decreases-push_offsets : goal.decreases-push_offsets
decreases-push_offsets l = 2 * size-PlacedBlock l.block.now + 2

abbrev pub decreases-push_command : goal.decreases-push_command
decreases-push_command l = 2 * size-PlacedCmd l.c.now + 2

abbrev pub decreases-push_two : goal.decreases-push_two
decreases-push_two l = 2 * max (size-PlacedBlock l.first.now) (size-PlacedBlock l.second.now) + 3

-- the offsets so far, and those of what is left, are all
abbrev pub invariant-push_offsets-loop-c : goal.invariant-push_offsets-loop-c
invariant-push_offsets-loop-c l =
    let left = sites (rest l.c-items l.c-index) in
    let whole = sites (placed_block l.block) in
    record {
      offsets : l.offsets ++ offsets_from l.end left ≡ l.fn.offsets ++ offsets_from l.at whole;
      end : l.end + sum left ≡ l.at + sum whole;
    }
