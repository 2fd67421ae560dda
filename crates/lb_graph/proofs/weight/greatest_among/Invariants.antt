use Rattle.std.proofs.Common.{take}
use Rattle.lb_graph.specs.InternalBest.{IsGreatestAmong}
use Rattle.lb_graph.proofs.weight.greatest_among.Given as goal

abbrev pub invariant-loop-c : goal.invariant-loop-c
invariant-loop-c l = IsGreatestAmong l.best (take l.c-index l.calls) l.most
