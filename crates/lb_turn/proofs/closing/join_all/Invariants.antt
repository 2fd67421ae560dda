use Rattle.std.proofs.Common.{◌≡◌, ℕ, List, ◌++◌, length}
use Rattle.std.specs.List.{AllByRecursion}
use Rattle.lb_turn.specs.declared.table.History.{History}
use Rattle.lb_turn.specs.Seats.{SeatView}
use Rattle.lb_turn.specs.Closing.{Among}
use Rattle.lb_turn.specs.InternalSeats.{HasJoined}
use Rattle.lb_turn.proofs.closing.join_all.Given as goal

abbrev pub invariant-loop-seat : goal.invariant-loop-seat
invariant-loop-seat g l =
    (l.owner.table_id ≡ l.fn.owner.table_id) × (l.owner.id ≡ l.fn.owner.id)
    × ((gone : List (SeatView g.row.M-Why.Denot)) × (l.fn.seats.items ≡ l.seats.items ++ gone)
    × ((js : List (ℕ × History g.row.M-Why.Denot)) × HasJoined l.fn.total js l.owner
    × AllByRecursion (λ s. Among (s.number, s.history) js) gone))

abbrev pub decreases-loop-seat : goal.decreases-loop-seat
decreases-loop-seat g l = length l.seats.items
