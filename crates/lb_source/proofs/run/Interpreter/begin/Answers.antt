use Rattle.std.proofs.Common.{◌-◌, arith}
use Rattle.lb_memory.specs.declared.TheConstants.{STACK_TOP}
use Rattle.lb_syntax.specs.Tree.{block_of}
use Rattle.lb_source.proofs.BlockFacts.{blocks_more}
use Rattle.lb_source.proofs.run.Interpreter.begin.Goals as goal

pub returns-clause-blocks : goal.returns-clause-blocks
returns-clause-blocks c = let small = c.requires.fits.small in blocks_more c.args.frame.now.size (STACK_TOP - c.saturating_sub-m.result) c.args.frame.now.sites (block_of c.args.function.now.body) (let low = c.saturating_sub-m.ensures in let stack = c.requires.stack in omega arith) c.requires.fits.inside
