use Rattle.lb_image.proofs.ReadingLemmas.{fault_or_image}
use Rattle.lb_image.proofs.laws.fault_or_image.Goals as goal

pub returns : goal.returns
returns c = fault_or_image
