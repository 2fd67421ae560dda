use Rattle.std.proofs.Common.{◌≡◌, ◌≢◌, ℕ, length, ◌≤◌, ◌<◌, ◌-◌}
use mathlib.Core.Option.{some}
use lib.ListN.{get_elem?}
use Rattle.lb_turn.specs.Seats.{SeatView}
use Rattle.lb_turn.proofs.closing.has_number.Given as goal

abbrev pub invariant-loop-at : goal.invariant-loop-at
invariant-loop-at g l = (l.at ≤ length l.fn.seats)
    × ((k : ℕ) (s : SeatView g.row.M-Why.Denot) → k < l.at → get_elem? l.fn.seats k ≡ some s → s.number ≢ l.fn.number)

abbrev pub decreases-loop-at : goal.decreases-loop-at
decreases-loop-at g l = length l.fn.seats - l.at
