use Rattle.std.proofs.Common.{ℕ, List, sym, ap, ◌∙◌, subst, refl}
use Rattle.lb_turn.specs.Closing.{IsMissing, IsComplete}
use Rattle.lb_turn.specs.Seats.{SeatView}
use Rattle.lb_turn.proofs.turn.Turn.close.Goals as goal

pub returns-in-Some-clause-missing : goal.returns-in-Some-clause-missing
returns-in-Some-clause-missing g c = (
  refl,
  refl,
  subst (λ (z : ℕ × List (SeatView g.row.M-Why.Denot)). IsMissing z.0 z.1 c.in-Some.number)
      (λ i. (ap (λ o. o.seats) c.self.view_is i, c.as_slice.ensures.value i)) c.in-Some.ensures,
)

pub take_value-requires-clause-of_this : goal.take_value-requires-clause-of_this
take_value-requires-clause-of_this g c = λ k d h. (c.requires k d h).0 ∙ ap (λ o. o.turn) (sym c.self.view_is)

pub take_value-requires-clause-complete : goal.take_value-requires-clause-complete
take_value-requires-clause-complete g c =
    subst (IsComplete c.self.inside.seats) c.as_slice.ensures.value c.in_default.ensures
