use Rattle.std.proofs.Common.{length}
use Rattle.std.specs.Prelude.{map}
use Rattle.lb_syntax.specs.Tree.{term_of}
use Rattle.lb_text.proofs.Lists.{ArgumentsSoFar}
use Rattle.lb_text.proofs.call.more_arguments.Given as goal

abbrev pub invariant-loop-arguments : goal.invariant-loop-arguments
invariant-loop-arguments l = ArgumentsSoFar l.depth (term_of l.fn.first) (map term_of l.arguments) l.bytes l.rest

abbrev pub decreases-loop-arguments : goal.decreases-loop-arguments
decreases-loop-arguments l = length l.rest
