use Rattle.std.proofs.Common.{arith, ◌≢◌, ◌-◌, ◌<◌, ◌≤◌, length, ℕ, List, Ok, Err, sym, ap, ◌∙◌, subst}
use Rattle.lb_trace.specs.declared.Entry.{Entry}
use Rattle.lb_turn.specs.declared.seat.TurnFault.TheVariants.{NotFired}
use Rattle.lb_turn.specs.Histories.{met_by}
use Rattle.lb_turn.specs.Steps.{history_in, entries_in}
use Rattle.lb_turn.specs.Seats.{IsSameSeat, GoesOn, Answers, seat_view}
use Rattle.lb_turn.proofs.PlayLemmas.{tries}
use Rattle.lb_turn.proofs.CallLemmas.{again, idles, goes, wins, fired, seen_after, same_seat, answers_ok, answers_err}
use Rattle.lb_turn.proofs.turn.Turn.try_fire.Goals.{in-Ok, in-Err}
use Rattle.lb_turn.proofs.turn.Turn.try_fire.Goals as goal

pub compare_exchange-found-requires : goal.compare_exchange-found-requires
compare_exchange-found-requires g c = let w = c.self.invariant.words in (
  ap (λ s. s.turn) c.seat.view_is ∙ (c.requires.0 ∙ ap (λ o. o.turn) (sym c.self.view_is)),
  omega arith,
  tries g.M.Acts.entries g.M.Acts.fixed g.M.Acts.why _ _ _ _ _ _ _ c.seat.invariant.me,
)

pub act_and_release-count-requires-clause-holder : goal.act_and_release-count-requires-clause-holder
act_and_release-count-requires-clause-holder g c =
    let took = c.compare_exchange-found.ensures.2.0 c.if-found-ne0.false in
    wins _ _ _ g.M.Acts.entries g.M.Acts.fixed _ c.seat.inside.place c.compare_exchange-found.new.seat took.0
    c.seat.invariant.me took.1

pub overflow_cast-result : goal.overflow_cast-result
overflow_cast-result g c =
    let lost = c.compare_exchange-found.ensures.2.1 (λ e. c.if-found-ne0.true e) in
    let few = c.seat.invariant.few in
    let less = lost.1 in
    omega arith

pub invariant_of-seat : goal.invariant_of-seat
invariant_of-seat g c =
    let lost = c.compare_exchange-found.ensures.2.1 (λ e. c.if-found-ne0.true e) in
    idles _ _ _ _ _ c.seat.inside.place c.compare_exchange-found.new.seat _ c.seat.invariant
    (again _ _ _ _ _ _ _ c.seat.invariant.me lost.0) _ c.seat.invariant.seen_is

pub returns-then-found-ne0-clause-answers : goal.returns-then-found-ne0-clause-answers
returns-then-found-ne0-clause-answers g c =
    let lost = c.compare_exchange-found.ensures.2.1 (λ e. c.if-found-ne0.true e) in
    let holder : ℕ = c.compare_exchange-found.result - 1 in
    subst (λ s. (holder < s.seats) × (holder ≢ s.number)
    × GoesOn s (seat_view c.compare_exchange-found.new.seat) (met_by s.history holder)) c.seat.view_is (
      lost.1,
      lost.2,
      goes _ _ _ _ _ c.seat.inside.place c.compare_exchange-found.new.seat _ c.seat.invariant
          c.compare_exchange-found.ensures.0 (again _ _ _ _ _ _ _ c.seat.invariant.me lost.0),
    )

pub returns-then-found-ne0-clause-seat : goal.returns-then-found-ne0-clause-seat
returns-then-found-ne0-clause-seat g c =
    let lost = c.compare_exchange-found.ensures.2.1 (λ e. c.if-found-ne0.true e) in
    subst (λ s. IsSameSeat s (seat_view c.compare_exchange-found.new.seat)) c.seat.view_is
    (same_seat _ (seat_view c.seat.inside.place) (seat_view c.compare_exchange-found.new.seat) _
    (goes _ _ _ _ _ c.seat.inside.place c.compare_exchange-found.new.seat _ c.seat.invariant
    c.compare_exchange-found.ensures.0 (again _ _ _ _ _ _ _ c.seat.invariant.me lost.0)))

pub invariant_of-seat-2 : goal.invariant_of-seat-2
invariant_of-seat-2 g c =
    let took = c.compare_exchange-found.ensures.2.0 c.if-found-ne0.false in
    idles _ _ _ _ _ c.seat.inside.place c.act_and_release-count.new.place _ c.seat.invariant
    (fired _ _ _ g.M.Acts.entries g.M.Acts.fixed _ _ _ c.seat.inside.place c.compare_exchange-found.new.seat
    c.act_and_release-count.new.place took.0 took.1 c.act_and_release-count.ensures.idle) _
    (seen_after _ (history_in c.seat.inside.place.me.0.role) _ c.args.kind _ _
    c.act_and_release-count.ensures.answer)

pub returns-clause-answers : goal.returns-clause-answers
returns-clause-answers g c =
    let took = c.compare_exchange-found.ensures.2.0 c.if-found-ne0.false in
    let p = c.compare_exchange-found.new.seat in
    let l : List Entry = entries_in p.me.0.role in
    let q = c.act_and_release-count.new.place in
    let answer = c.act_and_release-count.ensures.answer in
    let told = goes _ _ _ _ _ c.seat.inside.place q _ c.seat.invariant
    (c.act_and_release-count.ensures.same ∙ c.compare_exchange-found.ensures.0)
    (fired _ _ _ g.M.Acts.entries g.M.Acts.fixed _ _ _ c.seat.inside.place p q took.0 took.1
    c.act_and_release-count.ensures.idle) in
    let seen : (history_in c.seat.inside.place.me.0.role).seen ≤ length l =
    subst (λ (z : List Entry). (history_in c.seat.inside.place.me.0.role).seen ≤ length z)
    (sym (ap (λ m. entries_in m.0.role) took.1)) took.2 in
    elim c.match-answer.branch [
      | in-Ok w ↦ subst (λ r. Answers c.args.seat.now c.args.kind r (seat_view q)) (sym w.result-is)
          (subst (λ s. Answers s c.args.kind (Ok w.in-Ok.place) (seat_view q)) c.seat.view_is
          (answers_ok _ (seat_view c.seat.inside.place) (seat_view q) _ _ l _ _ w.in-Ok.is answer seen told))
      | in-Err w ↦ subst (λ r. Answers c.args.seat.now c.args.kind r (seat_view q)) (sym w.result-is)
          (subst (λ s. Answers s c.args.kind (Err (NotFired c.act_and_release-count.result.0 w.in-Err.why)) (seat_view q))
          c.seat.view_is
          (answers_err _ (seat_view c.seat.inside.place) (seat_view q) _ _ l _ _ w.in-Err.is answer seen told))
    ]

pub returns-clause-seat : goal.returns-clause-seat
returns-clause-seat g c =
    let took = c.compare_exchange-found.ensures.2.0 c.if-found-ne0.false in
    let p = c.compare_exchange-found.new.seat in
    let q = c.act_and_release-count.new.place in
    subst (λ s. IsSameSeat s (seat_view q)) c.seat.view_is
    (same_seat _ (seat_view c.seat.inside.place) (seat_view q) _
    (goes _ _ _ _ _ c.seat.inside.place q _ c.seat.invariant
    (c.act_and_release-count.ensures.same ∙ c.compare_exchange-found.ensures.0)
    (fired _ _ _ g.M.Acts.entries g.M.Acts.fixed _ _ _ c.seat.inside.place p q took.0 took.1
    c.act_and_release-count.ensures.idle)))
