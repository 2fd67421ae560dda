use Rattle.std.proofs.Common.{◌≡◌, ◌+◌, ◌≤◌}
use Rattle.std.specs.Prelude.{max}
use Rattle.lb_syntax.specs.Tree.{block_of}
use Rattle.lb_syntax.specs.WellFormed.{IsBlock}
use Rattle.lb_syntax.specs.Parts.{command_parts}
use Rattle.lb_syntax.specs.InternalNesting.{command_nest}
use Rattle.lb_syntax.proofs.BlockLemmas.{rest}
use Rattle.lb_syntax.proofs.nesting.+of_command.Given as goal

-- the rest has what the count lacks, and the block is well-formed if the rest is
abbrev pub invariant-of_block-loop-c : goal.invariant-of_block-loop-c
invariant-of_block-loop-c l =
    let left = rest l.c-items l.c-index in
    let whole = block_of l.block in
    record {
      counted : max l.most (command_nest left) ≡ command_nest whole;
      few : l.most + command_parts left ≤ command_parts whole;
      well_formed : IsBlock left → IsBlock whole;
    }
