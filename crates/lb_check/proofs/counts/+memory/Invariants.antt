use Rattle.std.proofs.Common.{◌≡◌, ◌+◌, ◌*◌, ◌≤◌, sum}
use Rattle.lb_syntax.specs.Tree.{block_of}
use Rattle.lb_syntax.specs.Needs.{sites}
use Rattle.lb_check.specs.Parts.{body_parts}
use Rattle.lb_syntax.proofs.BlockLemmas.{rest}
use Rattle.lb_check.proofs.counts.+memory.Given as goal

-- what was counted and what is left to count is all
abbrev pub invariant-memory_of_block-loop-c : goal.invariant-memory_of_block-loop-c
invariant-memory_of_block-loop-c l = record {
  counted : l.count + sum (sites (rest l.c-items l.c-index)) ≡ sum (sites (block_of l.block));
  few : l.count + 4294967296 * body_parts (rest l.c-items l.c-index) ≤ 4294967296 * body_parts (block_of l.block);
}
