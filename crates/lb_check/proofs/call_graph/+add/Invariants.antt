use Rattle.std.proofs.Common.{◌≡◌, ◌++◌, map}
use Rattle.lb_syntax.specs.Tree.{procedure_of, block_of}
use Rattle.lb_check.specs.InternalCallGraph.{called}
use Rattle.lb_syntax.proofs.BlockLemmas.{rest}
use Rattle.lb_check.proofs.call_graph.+add.Given as goal

-- the places so far, and those of what is left, are all
abbrev pub invariant-add_block-loop-c : goal.invariant-add_block-loop-c
invariant-add_block-loop-c l =
    let p = map procedure_of l.functions in
    l.nodes ++ called p (rest l.c-items l.c-index) ≡ l.fn.nodes ++ called p (block_of l.block)
