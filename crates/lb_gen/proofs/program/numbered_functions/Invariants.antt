use Rattle.std.proofs.Common.{map}
use Rattle.lb_syntax.specs.Tree.{procedure_of}
use Rattle.lb_gen.specs.InternalDraws.{AreDrawn}
use Rattle.lb_gen.proofs.program.numbered_functions.Given as goal

abbrev pub invariant-loop-number : goal.invariant-loop-number
invariant-loop-number l = AreDrawn l.fn.draws l.draws l.number (map procedure_of l.functions)
