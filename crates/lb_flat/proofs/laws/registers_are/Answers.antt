use Rattle.lb_flat.proofs.RegisterLemmas.{registers_are}
use Rattle.lb_flat.proofs.laws.registers_are.Goals as goal

pub returns : goal.returns
returns c = registers_are
