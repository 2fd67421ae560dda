use Rattle.lb_source.proofs.Later.{more_fuel_goes_on}
use Rattle.lb_source.proofs.laws.more_fuel_goes_on.Goals as goal

pub returns : goal.returns
returns c = more_fuel_goes_on
