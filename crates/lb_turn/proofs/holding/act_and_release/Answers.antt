use Rattle.std.proofs.Common.{ℕ, sym, ap, ◌∙◌, subst, refl, Result, arith}
use Rattle.lb_trace.specs.declared.Kind.{Kind}
use Rattle.lb_turn.specs.Steps.{number_in, entries_in}
use Rattle.lb_turn.specs.InternalSeats.{ActsOn}
use Rattle.lb_turn.proofs.PlayLemmas.{publishes, releases}
use Rattle.lb_turn.proofs.CallLemmas.{counts, finishes, published_is}
use Rattle.lb_turn.proofs.holding.act_and_release.Goals as goal

pub store-requires : goal.store-requires
store-requires g c =
    let d = c.act_in_slot-count.ensures.acted in
    let same = c.act_in_slot-count.ensures.same in
    let w = c.requires.here.1 in (
      same.0 ∙ c.requires.here.0,
      omega arith,
      publishes g.M.Acts.entries g.M.Acts.fixed g.M.Acts.why _ _ _ _ _ _ _ _ _ d.2 _
          (λ i. ((same.1 ∙ ap (λ m. m.0) d.3) i, d.4 i))
          (subst (λ (z : Kind × Result ℕ g.row.M-Why.Denot). ActsOn g.M.Acts.entries g.M.Acts.fixed g.M.Acts.why
          c.args.number (g.M.Acts.entries d.1.value) (g.M.Acts.fixed d.1.value) z.0 z.1 d.2.value)
          (λ i. (sym d.5 i, sym d.6 i)) d.8)
          d.7,
    )

pub store-requires-2 : goal.store-requires-2
store-requires-2 g c =
    let d = c.act_in_slot-count.ensures.acted in
    let same = c.act_in_slot-count.ensures.same in
    let w = c.requires.here.1 in
    let p = published_is _ _ _ g.M.Acts.entries g.M.Acts.fixed c.act_in_slot-count.new.place.me c.store.new.seat.me c.store.ensures.2.1 d.2 c.store.ensures.2.2 c.store.ensures.2.3 d.4 in (
      c.store.ensures.0 ∙ (same.0 ∙ c.requires.here.0),
      omega arith,
      releases g.M.Acts.entries g.M.Acts.fixed g.M.Acts.why _ _ _ _ _ _ _ _ _ d.2
          (λ i. ((ap (λ m. m.0) p) i, (ap (λ m. m.1) p ∙ d.4) i)) refl refl,
    )

pub returns-clause-idle : goal.returns-clause-idle
returns-clause-idle g c =
    let d = c.act_in_slot-count.ensures.acted in
    let same = c.act_in_slot-count.ensures.same in
    finishes _ _ _ _ _ _ _ _ c.args.place.now.me c.act_in_slot-count.new.place.me c.store.new.seat.me
    c.store-2.new.seat.me _ _ _ same.1 (ap (λ m. number_in m.0.role) d.3)
    (published_is _ _ _ g.M.Acts.entries g.M.Acts.fixed c.act_in_slot-count.new.place.me c.store.new.seat.me c.store.ensures.2.1 d.2 c.store.ensures.2.2 c.store.ensures.2.3 d.4)
    c.store-2.ensures.2.1 d.5 d.6

pub returns-clause-answer : goal.returns-clause-answer
returns-clause-answer g c = let d = c.act_in_slot-count.ensures.acted in
    counts _ _ _ g.M.Acts.entries g.M.Acts.fixed g.M.Acts.why _ _ _ _ _ _ _ _ d.8 d.7
    (ap (λ m. entries_in m.0.role) d.3)
