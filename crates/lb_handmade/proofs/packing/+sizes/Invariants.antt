use Rattle.std.proofs.Common.{◌≡◌, ◌++◌}
use Rattle.lb_syntax.specs.Tree.{block_of}
use Rattle.lb_syntax.specs.Needs.{sites}
use Rattle.lb_syntax.proofs.BlockLemmas.{rest}
use Rattle.lb_handmade.proofs.packing.+sizes.Given as goal

-- what is there and what is still to come is all
abbrev pub invariant-push_block_sizes-loop-c : goal.invariant-push_block_sizes-loop-c
invariant-push_block_sizes-loop-c l = l.sizes.items ++ sites (rest l.c-items l.c-index) ≡ l.initial.sizes.items ++ sites (block_of l.block)
