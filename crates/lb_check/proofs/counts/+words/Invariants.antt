use Rattle.std.proofs.Common.{◌≡◌, ◌+◌, ◌*◌, ◌≤◌}
use Rattle.lb_syntax.specs.Tree.{block_of}
use Rattle.lb_syntax.specs.Needs.{words}
use Rattle.lb_check.specs.Parts.{body_parts}
use Rattle.lb_syntax.proofs.BlockLemmas.{rest}
use Rattle.lb_check.proofs.counts.+words.Given as goal

-- what was counted and what is left to count is all
abbrev pub invariant-words_of_block-loop-c : goal.invariant-words_of_block-loop-c
invariant-words_of_block-loop-c l = record {
  counted : l.count + words (rest l.c-items l.c-index) ≡ words (block_of l.block);
  few : l.count + 10 * body_parts (rest l.c-items l.c-index) ≤ 10 * body_parts (block_of l.block);
}
