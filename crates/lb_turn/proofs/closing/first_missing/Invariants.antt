use Rattle.lb_turn.specs.Closing.{IsComplete}
use Rattle.lb_turn.proofs.closing.first_missing.Given as goal

abbrev pub invariant-loop-number : goal.invariant-loop-number
invariant-loop-number g l = IsComplete l.number l.fn.seats
