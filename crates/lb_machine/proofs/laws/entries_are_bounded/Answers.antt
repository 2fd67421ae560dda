use Rattle.lb_machine.proofs.LogLemmas.{entries_are_bounded}
use Rattle.lb_machine.proofs.laws.entries_are_bounded.Goals as goal

pub returns : goal.returns
returns c = entries_are_bounded
