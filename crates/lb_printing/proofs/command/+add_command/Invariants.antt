use Rattle.std.proofs.Common.{◌≡◌, ◌+◌, ◌*◌, ◌++◌}
use Rattle.std.specs.Prelude.{max}
use Rattle.lb_syntax.specs.declared.tree.Block.{size-Block}
use Rattle.lb_syntax.specs.declared.tree.Cmd.{size-Cmd}
use Rattle.lb_syntax.specs.Tree.{block_of}
use Rattle.lb_syntax.specs.WellFormed.{IsBlock}
use Rattle.lb_syntax.specs.Printing.{command_text}
use Rattle.lb_syntax.proofs.BlockLemmas.{rest}
use Rattle.lb_printing.proofs.command.+add_command.Given as goal

-- the rest is what the text lacks, and the block is well formed if the rest is
abbrev pub invariant-add_block-loop-c : goal.invariant-add_block-loop-c
invariant-add_block-loop-c l =
    let left = rest l.c-items l.c-index in
    let whole = block_of l.block in
    record {
      printed : l.text.items ++ command_text l.depth left ≡ l.fn.text.items ++ command_text l.depth whole;
      well_formed : IsBlock left → IsBlock whole;
    }

abbrev pub decreases-add_block : goal.decreases-add_block
decreases-add_block l = 4 * size-Block l.block.now + 1

abbrev pub decreases-add_inner : goal.decreases-add_inner
decreases-add_inner l = 4 * size-Block l.block.now + 2

abbrev pub decreases-add_else : goal.decreases-add_else
decreases-add_else l = 4 * size-Block l.block.now + 3

abbrev pub decreases-add_command : goal.decreases-add_command
decreases-add_command l = 4 * size-Cmd l.c.now + 3

abbrev pub decreases-add_alloc : goal.decreases-add_alloc
decreases-add_alloc l = 4 * size-Block l.body.now + 4

abbrev pub decreases-add_choice : goal.decreases-add_choice
decreases-add_choice l = 4 * max (size-Block l.yes.now) (size-Block l.no.now) + 4

abbrev pub decreases-add_loop : goal.decreases-add_loop
decreases-add_loop l = 4 * size-Block l.body.now + 4
