use Rattle.std.proofs.Common.{◌≡◌, ◌<◌, ◌^◌, max}
use Rattle.lb_syntax.specs.Tree.{block_of}
use Rattle.lb_syntax.proofs.BlockLemmas.{rest}
use Rattle.lb_flat.specs.SourceCounts.{greatest_arguments}
use Rattle.lb_flat.proofs.arguments.+arguments.Given as goal

-- the most so far and the most of what is left are the most of all
abbrev pub invariant-arguments_of_block-loop-c : goal.invariant-arguments_of_block-loop-c
invariant-arguments_of_block-loop-c l =
    let left = rest l.c-items l.c-index in
    record {
      most : max l.most (greatest_arguments left) ≡ greatest_arguments (block_of l.block);
      small : greatest_arguments left < 2 ^ 32;
    }
