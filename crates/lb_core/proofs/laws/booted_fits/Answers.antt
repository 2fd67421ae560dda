use Rattle.lb_core.proofs.PotentialLemmas.{booted_fits}
use Rattle.lb_core.proofs.laws.booted_fits.Goals as goal

pub returns : goal.returns
returns c = booted_fits
