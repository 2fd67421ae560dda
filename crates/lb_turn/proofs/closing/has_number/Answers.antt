use Rattle.std.proofs.Common.{rules, arith, ◌≡◌, sym, ap, ◌∙◌}
use mathlib.Core.Logic.{dite}
use mathlib.Core.Option.{some-injective}
use native.Mathlib.Decide.{ℕ_discrete}
use lib.ListN.{get_elem?}
use Rattle.atomic_table.proofs.Lists.{at_index}
use Rattle.lb_turn.proofs.ListLemmas.{below_length}
use Rattle.lb_turn.proofs.closing.has_number.Goals as goal

pub returns-then-number : goal.returns-then-number
returns-then-number g c = (
  (λ _. (
    c.index-seats-at.result,
    (
      c.loop-at.at,
      at_index c.args.seats.now c.loop-at.at
          c.index-seats-at.result c.loop-at-test.true c.index-seats-at.is,
    ),
    sym c.number.ensures ∙ c.if-number.true,
  )),
  λ _. search rules,
)

pub loop-at-preserved : goal.loop-at-preserved
loop-at-preserved g c = let b = c.loop-at-test.true in (
  omega arith,
  λ k s l e is. dite (ℕ_discrete k c.loop-at.at)
      (λ q. let same : c.index-seats-at.result ≡ s = some-injective c.index-seats-at.result s
      (sym (at_index c.args.seats.now c.loop-at.at c.index-seats-at.result b c.index-seats-at.is)
      ∙ (sym (ap (λ i. get_elem? c.args.seats.now i) q) ∙ e)) in
      c.if-number.false (c.number.ensures ∙ (ap (λ z. z.number) same ∙ is)))
      (λ ne. c.loop-at.invariant.1 k s (omega arith) e is),
)

pub returns : goal.returns
returns g c = (
  (λ t. search rules),
  λ h.
      let b = below_length c.args.seats.now h.1.0 h.0 h.1.1 in
      let t = c.loop-at-test.false in
      absurd (c.loop-at.invariant.1 h.1.0 h.0 (omega arith) h.1.1 h.2),
)
