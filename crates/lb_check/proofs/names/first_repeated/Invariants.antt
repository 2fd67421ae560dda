use Rattle.std.proofs.Common.{drop}
use Rattle.lb_check.proofs.NameSets.{Searched}
use Rattle.lb_check.proofs.names.first_repeated.Given as goal

-- the set has the names so far, and none of them comes twice
abbrev pub invariant-loop-name : goal.invariant-loop-name
invariant-loop-name l = Searched l.seen l.names (drop l.name-index l.names)
