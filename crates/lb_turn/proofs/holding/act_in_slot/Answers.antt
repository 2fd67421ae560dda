use Rattle.std.proofs.Common.{◌≡◌, ◌∷◌, [], ℕ, List, sym, ap, ◌∙◌, Option, Some}
use Rattle.atomic_table.specs.Table.{rest}
use Rattle.lb_turn.specs.declared.table.Role.TheVariants.{Holding}
use Rattle.lb_turn.specs.Steps.{view}
use Rattle.lb_turn.proofs.CallLemmas.{acts_on}
use Rattle.lb_turn.proofs.holding.act_in_slot.Goals as goal

pub exchange-requires : goal.exchange-requires
exchange-requires g c = let h = c.requires.holder in let p = ap (λ m. m.1) h.2 in
    (c.requires.here, (Some h.1, p ∙ ap (λ cs. (0, Some h.1) ∷ rest cs) (sym p)))

abbrev first_or : {A : Type 0} → A → List (ℕ × Option A) → A
first_or d ((i, Some x) ∷ xs) = x
first_or d _ = d

pub returns-clause-acted : goal.returns-clause-acted
returns-clause-acted g c =
    let h = c.requires.holder in
    let p = ap (λ m. m.1) h.2 in
    let held = c.in-Some.held in
    let same : h.1 ≡ held = ap (first_or held)
    (sym p ∙ (c.exchange.ensures.2 ∙ ap (λ r. (0, r) ∷ rest c.args.place.now.me.1) c.in-Some.is)) in
    let bare : rest c.exchange.new.seat.me.1 ≡ [] = ap (λ m. rest m.1) c.exchange.ensures.3 ∙ ap rest p in (
      h.0,
      held,
      record { value = c.act-answer.new.self; last = c.of-last.result },
      h.2 ∙ (λ i. (
        view c.args.place.now.me.0.total (Holding c.args.number h.0
            (g.M.Acts.entries (same i).value) (g.M.Acts.fixed (same i).value)),
        (0, Some (same i)) ∷ [],
      )),
      ap (λ m. m.1) c.exchange-2.ensures.3
          ∙ ap (λ cs. (0, Some (record { value = c.act-answer.new.self; last = c.of-last.result })) ∷ cs) bare,
      ap (λ d. d.kind) c.of-last.ensures,
      ap (λ d. d.answer) c.of-last.ensures,
      c.count-count.ensures,
      acts_on _ _ _ g.M.Acts.entries g.M.Acts.fixed g.M.Acts.why _ _ _ _ _ _ c.act-answer.ensures.same
          c.act-answer.ensures.place c.act-answer.ensures.ok c.act-answer.ensures.err c.act-answer.ensures.reason,
    )
