use Rattle.lb_bulb.proofs.Whole.{never_wrong}
use Rattle.lb_bulb.proofs.laws.never_goes_wrong.Goals as goal

pub returns : goal.returns
returns c = record { never_wrong = never_wrong }
