use Rattle.std.proofs.Common.{suc}
use Rattle.lb_syntax.specs.Tree.{block_of}
use Rattle.lb_syntax.specs.Printing.{command_text}
use Rattle.lb_printing.proofs.ListLemmas.{added_two}
use Rattle.lb_printing.proofs.BlockLemmas.{with_else}
use Rattle.lb_printing.proofs.command.+add_command.Goals as goal

pub add_else-returns-clause-printed : goal.add_else-returns-clause-printed
add_else-returns-clause-printed t c =
    let inner = command_text (suc c.args.depth) (block_of c.args.block.now) in
    rw (with_else c.args.depth c.args.block.now inner (λ e. (let h = c.is_empty.ensures.1 e in let k = c.if-is_empty.false in cc)))
    (added_two c.add_inner.result _ c.add_line.new.text.items _ _ inner c.in_ok-add_line.ensures c.add_inner.ensures.printed)
