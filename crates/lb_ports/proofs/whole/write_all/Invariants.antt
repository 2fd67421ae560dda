use Rattle.std.proofs.Common.{◌≡◌, length}
use Rattle.lb_ports.proofs.RunLemmas.{IsWrittenUpTo}
use Rattle.lb_ports.proofs.whole.write_all.Given as goal

abbrev pub invariant-loop-rest : goal.invariant-loop-rest
invariant-loop-rest g l = record {
  steady : g.O.Sink.faults l.output ≡ g.O.Sink.faults l.fn.output;
  written : IsWrittenUpTo (g.O.Sink.held l.fn.output) (g.O.Sink.held l.output) l.bytes l.rest;
}

abbrev pub decreases-loop-rest : goal.decreases-loop-rest
decreases-loop-rest g l = length l.rest
