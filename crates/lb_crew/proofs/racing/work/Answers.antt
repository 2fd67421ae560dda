use Rattle.std.proofs.Common.{◌∙◌, Err, subst, sym, ⊎_elim}
use Rattle.lb_turn.specs.Seats.{Answers}
use Rattle.lb_crew.specs.InternalCrew.{IsEnd}
use Rattle.lb_crew.proofs.CrewLemmas.{saw_end}
use Rattle.lb_crew.proofs.racing.work.Goals as goal

pub returns-in-Full : goal.returns-in-Full
returns-in-Full g c =
    let i = c.loop.invariant.1 in
    let s = c.try_fire.ensures.seat in
    let w = c.in-Err-NotFired in
    let is_end : IsEnd w.why = ⊎_elim (λ e. subst IsEnd (sym e) tt) (λ e. subst IsEnd (sym e.1) tt) c.in-Full.is in (
      (s.0 ∙ i.0, s.1 ∙ i.1, s.2 ∙ i.2),
      saw_end c.loop.seat c.loop.kind _ w.why c.try_fire.new.seat is_end
          (subst (λ f. Answers c.loop.seat c.loop.kind (Err f) c.try_fire.new.seat) w.field-0-is w.ensures.answers),
    )
