use Rattle.std.proofs.Common.{drop}
use Rattle.lb_source.proofs.FindFacts.{Searching}
use Rattle.lb_source.proofs.run.Interpreter.find_function.Given as goal

abbrev pub invariant-loop-i : goal.invariant-loop-i
invariant-loop-i l = Searching l.self l.name (drop l.i l.functions) (drop l.i l.frames)
