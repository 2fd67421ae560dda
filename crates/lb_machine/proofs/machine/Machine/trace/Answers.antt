use Rattle.lb_machine.proofs.MachineLemmas.{machine_events, machine_stands}
use Rattle.lb_machine.proofs.machine.Machine.trace.Goals as goal

pub returns-clause-stands : goal.returns-clause-stands
returns-clause-stands c = rw (← c.self.view_is) (machine_stands _ c.self.invariant.replay)

pub returns-clause-few : goal.returns-clause-few
returns-clause-few c = rw (← c.self.view_is) (machine_events _ c.self.invariant.replay)
