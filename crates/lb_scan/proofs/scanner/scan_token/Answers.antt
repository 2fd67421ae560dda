use Rattle.std.proofs.Common.{◌≡◌, ◌≤◌, ◌∙◌, sym, rules, true}
use Rattle.std.specs.Prelude.{is_some}
use Rattle.std.proofs.lemmas.Result.{err_from_is_err_and, IfOk-weaker, IfErr-weaker}
use Rattle.lb_syntax.specs.Brackets.{most_brackets, open_after}
use Rattle.lb_spelling.specs.InternalMachine.{next}
use Rattle.lb_spelling.specs.Tokens.{Numeral}
use Rattle.lb_spelling.proofs.Lexing.{any_number}
use Rattle.lb_scan.specs.Tokens.{token_of}
use Rattle.lb_scan.proofs.Fronts.{Begins, digit_begins, stuck_token, takes_number, takes_word}
use Rattle.lb_scan.proofs.Refused.{wrong_refused, deep_refused, number_refused, word_refused}
use Rattle.lb_scan.proofs.scanner.scan_token.Goals as goal

pub returns-in_err-value-clause-fault : goal.returns-in_err-value-clause-fault
returns-in_err-value-clause-fault c =
    let p = err_from_is_err_and c.from_residual.result c.from_residual.ensures.1 in
    let begun : Begins c.args.expected c.in-Some.b true = sym c.may_begin.ensures ∙ c.if-not-may_begin.false in
    let room : open_after c.args.depth c.in-Some.b ≤ most_brackets = search rules in
    let takes : is_some (next c.args.expected (Numeral 0)) ≡ true = digit_begins c.args.expected c.in-Some.b (sym c.is_digit.ensures ∙ c.if-is_digit.true) ∙ begun in
    rw (p.1, p.2) (stuck_token c.args.expected c.args.depth c.args.bytes.now c.in-Some.b c.in-Some.field-0-1.now c.in_err-value.field-0.0 c.in-Some.ensures c.requires.token begun room (c.in_err-value.ensures.fault c.args.expected takes))

pub returns-in_ok-value-clause-found : goal.returns-in_ok-value-clause-found
returns-in_ok-value-clause-found c =
    let begun : Begins c.args.expected c.in-Some.b true = sym c.may_begin.ensures ∙ c.if-not-may_begin.false in
    let room : open_after c.args.depth c.in-Some.b ≤ most_brackets = search rules in
    let takes : is_some (next c.args.expected (Numeral 0)) ≡ true = digit_begins c.args.expected c.in-Some.b (sym c.is_digit.ensures ∙ c.if-is_digit.true) ∙ begun in
    takes_number c.args.expected c.args.depth c.args.bytes.now c.in-Some.b c.in-Some.field-0-1.now c.in_ok-value.value c.in_ok-value.rest.now c.in-Some.ensures room c.in_ok-value.ensures.found (any_number c.args.expected c.in_ok-value.value ∙ takes)

pub returns-else-is_digit-clause-found : goal.returns-else-is_digit-clause-found
returns-else-is_digit-clause-found c =
    let room : open_after c.args.depth c.in-Some.b ≤ most_brackets = search rules in
    IfOk-weaker c.word_or_sign.result _ _ (λ r p. takes_word c.args.expected c.args.depth c.args.bytes.now c.in-Some.b c.in-Some.field-0-1.now (token_of r.0) r.1.now c.in-Some.ensures room p) c.word_or_sign.ensures.found

pub returns-else-is_digit-clause-fault : goal.returns-else-is_digit-clause-fault
returns-else-is_digit-clause-fault c =
    let begun : Begins c.args.expected c.in-Some.b true = sym c.may_begin.ensures ∙ c.if-not-may_begin.false in
    let room : open_after c.args.depth c.in-Some.b ≤ most_brackets = search rules in
    IfErr-weaker c.word_or_sign.result _ _ (λ error p. stuck_token c.args.expected c.args.depth c.args.bytes.now c.in-Some.b c.in-Some.field-0-1.now error c.in-Some.ensures c.requires.token begun room p) c.word_or_sign.ensures.fault

pub returns-then-not-may_begin-clause-refused : goal.returns-then-not-may_begin-clause-refused
returns-then-not-may_begin-clause-refused c = wrong_refused c.args.expected c.args.depth c.args.bytes.now c.in-Some.b c.in-Some.field-0-1.now c.in-Some.ensures c.requires.token (sym c.may_begin.ensures ∙ c.if-not-may_begin.true)

pub returns-then-not-has_room-clause-refused : goal.returns-then-not-has_room-clause-refused
returns-then-not-has_room-clause-refused c = deep_refused c.args.expected c.args.depth c.args.bytes.now c.in-Some.b c.in-Some.field-0-1.now c.in-Some.ensures c.requires.token (search rules)

pub returns-in_err-value-clause-refused : goal.returns-in_err-value-clause-refused
returns-in_err-value-clause-refused c =
    let p = err_from_is_err_and c.from_residual.result c.from_residual.ensures.1 in
    rw (p.1) (number_refused c.args.expected c.args.depth c.args.bytes.now c.in-Some.b c.in-Some.field-0-1.now c.in-Some.ensures c.requires.token (sym c.is_digit.ensures ∙ c.if-is_digit.true) c.in_err-value.ensures.refused)

pub returns-else-is_digit-clause-refused : goal.returns-else-is_digit-clause-refused
returns-else-is_digit-clause-refused c = IfErr-weaker c.word_or_sign.result _ _ (λ error p. word_refused c.args.expected c.args.depth c.args.bytes.now c.requires.token p) c.word_or_sign.ensures.refused
