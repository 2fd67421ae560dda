use Rattle.std.proofs.Common.{◌∙◌, arith, length, subst, sym}
use Rattle.std.proofs.lemmas.Iterator.Adapters.{YieldsList-from_vec}
use Rattle.std.proofs.lemmas.Iterator.Consumers.{YieldsList-turn}
use Rattle.lb_turn.specs.Seats.{IsOf}
use Rattle.lb_crew.proofs.racing.make_crew.Goals as goal

pub invariant_of-push_reserved : goal.invariant_of-push_reserved
invariant_of-push_reserved c =
    let i = c.into_iter-seat-iterator.ensures.into_iter_gives in
    let t = YieldsList-turn (YieldsList-from_vec c.args.seats.items i.0 (i.1 ∙ c.args.seats.ok.0)) c.loop-seat.yielded _ c.loop-seat.yielded_by
    c.next.result c.next.new.self c.in-Some.seat c.in-Some.is c.next.ensures.steps in
    record { of = subst (IsOf c.args.turn.now) (sym t.1) (c.requires (length c.loop-seat.yielded) c.in-Some.seat t.0) }

pub push_reserved-requires : goal.push_reserved-requires
push_reserved-requires c =
    let i = c.into_iter-seat-iterator.ensures.into_iter_gives in
    let t = YieldsList-turn (YieldsList-from_vec c.args.seats.items i.0 (i.1 ∙ c.args.seats.ok.0)) c.loop-seat.yielded _ c.loop-seat.yielded_by
    c.next.result c.next.new.self c.in-Some.seat c.in-Some.is c.next.ensures.steps in
    let len = c.args.seats.ok.0 in
    let so_far = c.loop-seat.invariant.1 in
    let room = c.loop-seat.invariant.2 in
    let below = t.0 in
    omega (arith, len, so_far, room, below)
