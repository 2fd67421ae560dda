use Rattle.lb_machine.proofs.LogLemmas.{events_are_few}
use Rattle.lb_machine.proofs.laws.events_are_few.Goals as goal

pub returns : goal.returns
returns c = events_are_few
