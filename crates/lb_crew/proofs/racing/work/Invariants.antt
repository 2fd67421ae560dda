use Rattle.lb_turn.specs.Seats.{IsOf, IsSameSeat}
use Rattle.lb_crew.proofs.racing.work.Given as goal

-- the seat is the worker's, and of its turn
abbrev pub invariant-loop : goal.invariant-loop
invariant-loop g l = IsOf l.turn l.seat × IsSameSeat l.fn.worker.seat l.seat
