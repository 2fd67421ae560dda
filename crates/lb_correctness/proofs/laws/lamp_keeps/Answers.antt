use Rattle.lb_correctness.proofs.MachineLemmas.{lamp_keeps}
use Rattle.lb_correctness.proofs.laws.lamp_keeps.Goals as goal

pub returns : goal.returns
returns c = record { lamp = lamp_keeps c.machines_keep.ensures.machines c.never_goes_wrong.ensures.never_wrong c.prefix_law.ensures }
