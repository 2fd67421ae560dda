use Rattle.std.proofs.Common.{◌≡◌, drop, length}
use Rattle.lb_syntax.specs.Tree.{block_of}
use Rattle.lb_syntax.specs.Needs.{sites}
use Rattle.lb_syntax.proofs.BlockLemmas.{rest}
use Rattle.lb_source.proofs.run.+skip.Given as goal

abbrev pub invariant-after_block-loop-c : goal.invariant-after_block-loop-c
invariant-after_block-loop-c l =
    drop (length (sites (rest l.c-items l.c-index))) l.rest ≡ drop (length (sites (block_of l.block))) l.offsets
