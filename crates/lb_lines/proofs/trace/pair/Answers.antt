use Rattle.std.proofs.Common.{◌++◌, length, sym, ap, ap₂, ◌∙◌}
use Rattle.std.proofs.lemmas.List.{take-append-drop, length-take-le}
use Rattle.lb_lines.proofs.AccessLemmas.{pair_parts, value_spelled}
use Rattle.lb_lines.proofs.trace.pair.Goals as goal

pub returns-in_err-value-clause-none : goal.returns-in_err-value-clause-none
returns-in_err-value-clause-none c =
    let cut = c.in_ok-addr.ensures.cases in
    rw c.from_residual-in_err-value.ensures (λ addr value s.
    let parts = pair_parts c.args.text.now c.in_ok-addr.addr.now c.in_ok-addr.rest.now addr value
    (sym (ap₂ (λ x y. x ++ y) cut.1 cut.2 ∙ take-append-drop 8 c.args.text.now)) (ap length cut.1 ∙ length-take-le 8 c.args.text.now cut.0) s in
    c.in_err-value.ensures.none parts.value_text parts.whole)

pub returns-in_err-word-clause-none : goal.returns-in_err-word-clause-none
returns-in_err-word-clause-none c =
    let cut = c.in_ok-addr.ensures.cases in
    rw c.from_residual-in_err-word.ensures (λ addr value s.
    let parts = pair_parts c.args.text.now c.in_ok-addr.addr.now c.in_ok-addr.rest.now addr value
    (sym (ap₂ (λ x y. x ++ y) cut.1 cut.2 ∙ take-append-drop 8 c.args.text.now)) (ap length cut.1 ∙ length-take-le 8 c.args.text.now cut.0) s in
    c.in_err-word.ensures.none addr parts.spells_addr)

pub returns-in_err-word-2-clause-none : goal.returns-in_err-word-2-clause-none
returns-in_err-word-2-clause-none c =
    let cut = c.in_ok-addr.ensures.cases in
    rw c.from_residual-in_err-word-2.ensures (λ addr value s.
    let parts = pair_parts c.args.text.now c.in_ok-addr.addr.now c.in_ok-addr.rest.now addr value
    (sym (ap₂ (λ x y. x ++ y) cut.1 cut.2 ∙ take-append-drop 8 c.args.text.now)) (ap length cut.1 ∙ length-take-le 8 c.args.text.now cut.0) s in
    c.in_err-word-2.ensures.none value
    (value_spelled c.in_ok-value.value.now c.in_ok-addr.rest.now parts.value_text value c.in_ok-value.ensures.found parts.whole parts.spells_value))
