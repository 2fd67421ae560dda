use Rattle.std.proofs.Common.{take}
use Rattle.lb_graph.specs.InternalBest.{IsGreatest}
use Rattle.lb_graph.proofs.weight.greatest.Given as goal

abbrev pub invariant-loop-b : goal.invariant-loop-b
invariant-loop-b l = IsGreatest (take l.b-index l.best) l.most
