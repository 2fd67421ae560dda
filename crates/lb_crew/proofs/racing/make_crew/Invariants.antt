use Rattle.std.proofs.Common.{◌≡◌, length, map, vec_capacity, vec_len}
use Rattle.lb_crew.proofs.racing.make_crew.Given as goal

-- the workers have the seats so far, and there is room for all
abbrev pub invariant-loop-seat : goal.invariant-loop-seat
invariant-loop-seat l = (map (λ w. w.seat) l.crew.items ≡ l.yielded) × (vec_len l.crew ≡ length l.yielded)
    × (vec_capacity l.crew ≡ vec_len l.fn.seats)
