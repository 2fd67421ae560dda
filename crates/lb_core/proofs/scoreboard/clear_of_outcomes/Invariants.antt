use Rattle.std.proofs.Common.{◌≡◌, map, drop}
use Rattle.lb_core.specs.Scoreboard.{outcome_destination, uses_none}
use Rattle.lb_core.proofs.scoreboard.clear_of_outcomes.Given as goal

-- what is left decides
abbrev pub invariant-loop-outcome : goal.invariant-loop-outcome
invariant-loop-outcome l =
    uses_none l.instruction (map outcome_destination (drop l.outcome-index l.outcomes)) ≡ uses_none l.instruction (map outcome_destination l.outcomes)
