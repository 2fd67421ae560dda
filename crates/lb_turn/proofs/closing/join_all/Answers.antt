use Rattle.std.proofs.Common.{rules, ◌≡◌, [], ◌∷◌, ◌++◌, sym, ap, ◌∙◌, subst, refl, length}
use Rattle.std.proofs.lemmas.List.{append_assoc}
use Rattle.std.proofs.lemmas.List.Elements.{All-from_recursion, recursion_from_All}
use Rattle.std.specs.List.{AllByRecursion}
use Rattle.atomic_table.proofs.Lists.{at_longer, at_last}
use Rattle.lb_turn.specs.Seats.{SeatView}
use Rattle.lb_turn.specs.Closing.{Among}
use Rattle.lb_turn.proofs.ListLemmas.{each_map, each_between}
use Rattle.lb_turn.proofs.closing.join_all.Goals as goal

pub join-requires-clause-here : goal.join-requires-clause-here
join-requires-clause-here g c = let i = c.loop-seat.invariant in (
  (i.0 ∙ c.requires.here.0, c.requires.here.1),
  each_between _ c.pop.new.self.items c.in-Some.seat i.2.0
      (subst (AllByRecursion (λ (s : SeatView g.row.M-Why.Denot). s.turn ≡ c.args.table.now.table_id))
      (i.2.1 ∙ ap (λ z. z ++ i.2.0) c.in-Some.ensures.items)
      (recursion_from_All (λ s. s.turn ≡ c.args.table.now.table_id) c.args.seats.items c.requires.of_this)),
)

pub loop-seat-preserved : goal.loop-seat-preserved
loop-seat-preserved g c =
    let i = c.loop-seat.invariant in
    let s = c.in-Some.seat in
    let js = i.2.2.0 in (
      c.join.ensures.same.0 ∙ i.0,
      c.join.ensures.same.1 ∙ i.1,
      (
        s ∷ i.2.0,
        i.2.1 ∙ (ap (λ z. z ++ i.2.0) c.in-Some.ensures.items ∙ append_assoc c.pop.new.self.items (s ∷ []) i.2.0),
        (
          js ++ (s.number, s.history) ∷ [],
          c.join.ensures.joined js i.2.2.1,
          (
            (length js, at_last js (s.number, s.history) (length js) refl),
            each_map _ _ (λ u a. (a.0, at_longer js ((s.number, s.history) ∷ []) a.0 (u.number, u.history) a.1))
                i.2.0 i.2.2.2,
          ),
        ),
      ),
    )

pub returns-clause-joined : goal.returns-clause-joined
returns-clause-joined g c =
    let i = c.loop-seat.invariant in
    let empty : c.loop-seat.seats.items ≡ [] = search rules in (
      i.2.2.0,
      i.2.2.1,
      All-from_recursion (λ s. Among (s.number, s.history) i.2.2.0) c.args.seats.items
          (subst (AllByRecursion (λ (s : SeatView g.row.M-Why.Denot). Among (s.number, s.history) i.2.2.0))
          (sym (i.2.1 ∙ ap (λ z. z ++ i.2.0) empty)) i.2.2.2),
    )
