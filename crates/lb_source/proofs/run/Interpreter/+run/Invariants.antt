use Rattle.std.proofs.Common.{◌+◌, ◌*◌}
use Rattle.std.specs.Prelude.{◌-◌}
use Rattle.lb_memory.specs.declared.TheConstants.{STACK_TOP}
use Rattle.lb_syntax.specs.Tree.{term_of, block_of}
use Rattle.lb_syntax.specs.declared.tree.Cmd.{size-Cmd}
use Rattle.lb_syntax.specs.declared.tree.Block.{size-Block}
use Rattle.lb_syntax.proofs.BlockLemmas.{rest}
use Rattle.lb_source.specs.InternalMachine.{BlocksFit, depth_of, functions_of}
use Rattle.lb_source.proofs.RunFacts.{Leaves, LeavesTurns}
use Rattle.lb_source.proofs.run.Interpreter.+run.Given as goal

abbrev pub decreases-run_command : goal.decreases-run_command
decreases-run_command l = l.m.now.fuel * (2 * depth_of l.self.now + 5) + 2 * size-Cmd l.c.now + 2

abbrev pub decreases-run_block : goal.decreases-run_block
decreases-run_block l = l.m.now.fuel * (2 * depth_of l.self.now + 5) + 2 * size-Block l.block.now + 2

abbrev pub decreases-run_loop : goal.decreases-run_loop
decreases-run_loop l = l.m.now.fuel * (2 * depth_of l.self.now + 5) + 2 * size-Block l.body.now + 3

abbrev pub decreases-run_allocated : goal.decreases-run_allocated
decreases-run_allocated l = l.m.now.fuel * (2 * depth_of l.self.now + 5) + 2 * size-Block l.body.now + 3

abbrev pub decreases-run_call : goal.decreases-run_call
decreases-run_call l = l.m.now.fuel * (2 * depth_of l.self.now + 5) + 1

abbrev pub decreases-enter : goal.decreases-enter
decreases-enter l = l.m.now.fuel * (2 * depth_of l.self.now + 5)

abbrev pub invariant-run_block-loop-c : goal.invariant-run_block-loop-c
invariant-run_block-loop-c l =
    let left = rest l.c-items l.c-index in
    let p = functions_of l.self in
    BlocksFit (STACK_TOP - l.m.stack) l.rest left × Leaves p l.offsets (block_of l.block) l.initial.m l.rest left l.m

abbrev pub invariant-run_loop-turns : goal.invariant-run_loop-turns
invariant-run_loop-turns l = LeavesTurns (functions_of l.self) l.offsets (term_of l.condition) (block_of l.body) l.initial.m l.m

abbrev pub decreases-run_loop-turns : goal.decreases-run_loop-turns
decreases-run_loop-turns l = l.m.fuel
