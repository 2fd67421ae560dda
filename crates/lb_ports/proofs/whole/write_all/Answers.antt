use Rattle.std.proofs.Common.{rules, refl}
use Rattle.lb_ports.proofs.RunLemmas.{written_more}
use Rattle.lb_ports.proofs.whole.write_all.Goals as goal

pub loop-rest-preserved : goal.loop-rest-preserved
loop-rest-preserved g c = record { steady = search rules; written = written_more _ _ _ _ c.loop-rest.rest.now _ _ c.in-Ok.ensures.bound refl c.loop-rest.invariant.written c.in-Ok.ensures.bytes }
