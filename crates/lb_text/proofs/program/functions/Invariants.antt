use Rattle.std.proofs.Common.{length}
use Rattle.std.specs.Prelude.{map}
use Rattle.lb_syntax.specs.Tree.{procedure_of}
use Rattle.lb_text.proofs.Functions.{FunctionsSoFar}
use Rattle.lb_text.proofs.program.functions.Given as goal

abbrev pub invariant-loop-functions : goal.invariant-loop-functions
invariant-loop-functions l = FunctionsSoFar (map procedure_of l.functions) l.bytes l.rest

abbrev pub decreases-loop-functions : goal.decreases-loop-functions
decreases-loop-functions l = length l.rest
