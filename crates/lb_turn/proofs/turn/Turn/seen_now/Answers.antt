use Rattle.std.proofs.Common.{arith, refl, sym, ap, ◌∙◌, subst, ◌≤◌}
use Rattle.lb_turn.specs.Histories.{loaded_by}
use Rattle.lb_turn.specs.Seats.{GoesOn, seat_view}
use Rattle.lb_turn.proofs.PlayLemmas.{loads}
use Rattle.lb_turn.proofs.CallLemmas.{again, idles, goes}
use Rattle.lb_turn.proofs.turn.Turn.seen_now.Goals as goal

pub load-count-requires : goal.load-count-requires
load-count-requires g c = let w = c.self.invariant.words in (
  ap (λ s. s.turn) c.seat.view_is ∙ (c.requires.0 ∙ ap (λ o. o.turn) (sym c.self.view_is)),
  omega arith,
  loads g.M.Acts.entries g.M.Acts.fixed g.M.Acts.why _ _ _ _ _ _ _ c.seat.invariant.me,
)

pub invariant_of-seat : goal.invariant_of-seat
invariant_of-seat g c = idles _ _ _ _ _ _ _ _ c.seat.invariant
    (again _ _ _ _ _ _ _ c.seat.invariant.me c.load-count.ensures.2.1) _ refl

pub returns-clause-grows : goal.returns-clause-grows
returns-clause-grows g c = subst (λ s. s.history.seen ≤ c.load-count.result) c.seat.view_is c.load-count.ensures.2.0

pub returns-clause-loads : goal.returns-clause-loads
returns-clause-loads g c =
    subst (λ s. GoesOn s (seat_view c.load-count.new.seat) (loaded_by s.history c.load-count.result)) c.seat.view_is
    (goes _ _ _ _ _ c.seat.inside.place c.load-count.new.seat _ c.seat.invariant c.load-count.ensures.0
    (again _ _ _ _ _ _ _ c.seat.invariant.me c.load-count.ensures.2.1))
