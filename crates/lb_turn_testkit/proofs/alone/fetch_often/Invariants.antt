use Rattle.lb_turn.specs.Seats.{IsOf}
use Rattle.lb_turn_testkit.proofs.alone.fetch_often.Given as goal

abbrev pub invariant-loop : goal.invariant-loop
invariant-loop g l = IsOf l.fn.turn l.seat
