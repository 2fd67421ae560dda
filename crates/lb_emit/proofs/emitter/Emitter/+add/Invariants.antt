use Rattle.std.proofs.Common.{◌≡◌, ◌+◌, ◌*◌, length, max}
use Rattle.lb_flat.specs.declared.placed.PlacedCmd.{size-PlacedCmd}
use Rattle.lb_flat.specs.declared.placed.PlacedBlock.{size-PlacedBlock}
use Rattle.lb_flat.specs.Code.{sites}
use Rattle.lb_flat.specs.Placed.{placed_block}
use Rattle.lb_emit_laws.specs.Code.{code_words}
use Rattle.lb_emit.specs.InternalEmit.{CallsFunctions, NamesSlots, with_command}
use Rattle.lb_emit.proofs.Rest.{rest}
use Rattle.lb_emit.proofs.emitter.Emitter.+add.Given as goal

abbrev pub decreases-add_block : goal.decreases-add_block
decreases-add_block l = 2 * size-PlacedBlock l.block.now + 2

abbrev pub decreases-add_command : goal.decreases-add_command
decreases-add_command l = 2 * size-PlacedCmd l.c.now + 2

abbrev pub decreases-add_choice : goal.decreases-add_choice
decreases-add_choice l = 2 * max (size-PlacedBlock l.yes.now) (size-PlacedBlock l.no.now) + 3

abbrev pub decreases-add_loop : goal.decreases-add_loop
decreases-add_loop l = 2 * max (size-PlacedBlock l.before.now) (size-PlacedBlock l.body.now) + 3

abbrev pub decreases-add_stack_block : goal.decreases-add_stack_block
decreases-add_stack_block l = 2 * size-PlacedBlock l.body.now + 3

-- the code so far, and that of what is left, is all
abbrev pub invariant-add_block-loop-c : goal.invariant-add_block-loop-c
invariant-add_block-loop-c l =
    let left = rest l.c-items l.c-index in
    let whole = placed_block l.block in
    record {
      slots : NamesSlots l.self.frame.slots left;
      functions : CallsFunctions (length l.self.entries) left;
      long : length l.out.code + code_words l.self.frame left ≡ length l.fn.out.code + code_words l.self.frame whole;
      next : l.out.next_block + length (sites left) ≡ l.fn.out.next_block + length (sites whole);
      code : with_command l.self l.out.code l.out.next_block left ≡ with_command l.self l.fn.out.code l.fn.out.next_block whole;
    }
