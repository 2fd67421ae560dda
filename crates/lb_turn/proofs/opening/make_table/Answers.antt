use Rattle.std.proofs.Common.{◌∷◌, ◌++◌, [], List, Option, Some, sym, ap, ◌∙◌, subst, length}
use Rattle.atomic_table.specs.Table.{opening}
use Rattle.lb_turn.specs.declared.table.Held.{Held}
use Rattle.lb_turn.specs.declared.table.Key.{Key}
use Rattle.lb_turn.specs.Rule.{IsKept, first_view}
use Rattle.lb_turn.proofs.OpeningLemmas.{opens}
use Rattle.lb_turn.proofs.opening.make_table.Goals as goal

pub new-requires : goal.new-requires
new-requires g c =
    let x : Held g.row.M.Denot g.row.M-Why.Denot = record { value = c.args.value; last = c.of-last.result } in
    let key : Key g.row.M.Denot = record { opened = c.of.result; seats = c.args.seats } in
    subst (λ (z : List (Option (Held g.row.M.Denot g.row.M-Why.Denot))).
    IsKept g.M.Acts.entries g.M.Acts.fixed g.M.Acts.why key
    (opening (0 ∷ c.count-count.result ∷ []) z (first_view g.M.Acts.entries g.M.Acts.fixed key)))
    (sym (c.push_reserved.ensures.items ∙ ap (λ z. z ++ Some x ∷ []) c.in_ok-slots.ensures.items))
    (opens g.M.Acts.entries g.M.Acts.fixed g.M.Acts.why key c.count-count.result x
    (c.count-count.ensures ∙ ap (λ v. length (g.M.Acts.entries v)) (sym c.of.ensures)) c.of.ensures)
