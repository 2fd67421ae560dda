use Rattle.lb_outcome.proofs.RamLemmas.{cells_zeros}
use Rattle.lb_outcome.proofs.registers.Registers.boot.Goals as goal

pub returns : goal.returns
returns c = cells_zeros 32
