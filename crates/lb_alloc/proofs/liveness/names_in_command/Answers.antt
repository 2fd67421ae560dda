use Rattle.lb_alloc.proofs.BlockLemmas.{names_at}
use Rattle.lb_alloc.proofs.liveness.names_in_command.Goals as goal

pub returns : goal.returns
returns c = names_at c.args.variables c.args.commands.now c.args.i c.args.c.now c.requires.here c.requires.is c.requires.names
