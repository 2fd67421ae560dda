use Rattle.std.proofs.Common.{◌≡◌, ◌≤◌}
use Rattle.std.specs.Prelude.{map, flat_map}
use Rattle.lb_syntax.specs.Tree.{procedure_of, block_of}
use Rattle.lb_check.specs.Order.{commands}
use Rattle.lb_check.specs.Parts.{body_parts}
use Rattle.lb_check.specs.Faults.{command_faults}
use Rattle.lb_syntax.proofs.BlockLemmas.{rest}
use Rattle.lb_check.proofs.commands.+walk.Given as goal

-- no fault so far: the faults of what is left are the faults of all
abbrev pub invariant-check_block-loop-c : goal.invariant-check_block-loop-c
invariant-check_block-loop-c l =
    let told = flat_map (command_faults l.rule (map procedure_of l.functions) l.function) in record {
      told : told (commands (rest l.c-items l.c-index)) ≡ told (commands (block_of l.block));
      few : body_parts (rest l.c-items l.c-index) ≤ body_parts (block_of l.block);
    }
