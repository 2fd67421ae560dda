use Rattle.std.proofs.Common.{◌≡◌}
use Rattle.lb_program_testkit.specs.Chosen.{first_chosen}
use Rattle.lb_program_testkit.proofs.places.choose_first.Given as goal

-- the places so far are those of the first variables
abbrev pub invariant-loop-variable : goal.invariant-loop-variable
invariant-loop-variable l = l.places ≡ first_chosen l.from l.to l.variable
