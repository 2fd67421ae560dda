use Rattle.lb_bulb.proofs.RulesKept.{rules_law}
use Rattle.lb_bulb.proofs.laws.keeps_rules.Goals as goal

pub returns : goal.returns
returns c = record { rules = rules_law }
