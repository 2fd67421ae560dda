use Rattle.std.proofs.Common.{◌≡◌, vec_capacity, vec_len}
use Rattle.lb_turn.specs.Seats.{new_seats}
use Rattle.lb_turn.specs.InternalSeats.{HasSplit}
use Rattle.lb_turn.proofs.opening.add_seats.Given as goal

abbrev pub invariant-loop-number : goal.invariant-loop-number
invariant-loop-number g l =
    HasSplit l.fn.seats l.number l.fn.count l.owner × (l.owner.table_id ≡ l.fn.owner.table_id)
    × (l.places.items ≡ new_seats l.fn.owner.table_id l.fn.seats l.fn.count l.number)
    × (vec_len l.places ≡ l.number) × (vec_capacity l.places ≡ vec_capacity l.fn.places)
