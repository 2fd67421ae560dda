use Rattle.std.proofs.Common.{◌∙◌, sym, arith}
use Rattle.lb_spelling.specs.Tokens.{is_word_byte}
use Rattle.lb_scan.proofs.Numbers.{digits_more, digits_end, digits_unexpected, digits_wide}
use Rattle.lb_scan.proofs.number.digits.Goals as goal

pub returns-then-not-is_name_byte-clause-found : goal.returns-then-not-is_name_byte-clause-found
unfolding is_word_byte
returns-then-not-is_name_byte-clause-found c =
    digits_end c.args.radix c.args.bytes.now c.loop-b.value c.loop-b.rest.now c.requires.high c.requires.some (rw c.in-Some.ensures (sym c.is_name_byte.ensures ∙ c.if-not-is_name_byte.true)) c.loop-b.invariant

pub returns-in_default-to_digit-clause-fault : goal.returns-in_default-to_digit-clause-fault
unfolding is_word_byte
returns-in_default-to_digit-clause-fault c =
    let p = rw c.in-Some.ensures at c.loop-b.invariant in
    rw (c.unexpected.ensures, c.in-Some.ensures) (digits_unexpected c.args.radix c.args.bytes.now c.loop-b.value c.in-Some.b c.in-Some.after.now c.requires.some p (sym c.is_name_byte.ensures ∙ c.if-not-is_name_byte.false) (omega (arith, c.in_default-to_digit.ensures.value)))

pub returns-in_default-with_digit-clause-fault : goal.returns-in_default-with_digit-clause-fault
unfolding is_word_byte
returns-in_default-with_digit-clause-fault c =
    let p = rw c.in-Some.ensures at c.loop-b.invariant in
    let d = c.in-Some-to_digit.ensures.value in
    rw (c.in-Some.ensures) (digits_wide c.args.radix c.args.bytes.now c.loop-b.value c.in-Some.b c.in-Some-to_digit.digit c.in-Some.after.now c.requires.high p (sym c.is_name_byte.ensures ∙ c.if-not-is_name_byte.false) (sym d.1) (rw d.1 d.0) c.in_default-with_digit.ensures)

pub loop-b-preserved : goal.loop-b-preserved
loop-b-preserved c =
    let p = rw c.in-Some.ensures at c.loop-b.invariant in
    let d = c.in-Some-to_digit.ensures.value in
    rw (c.in-Some-with_digit.ensures.0) (digits_more c.args.radix c.args.bytes.now c.loop-b.value c.in-Some.b c.in-Some-to_digit.digit c.in-Some.after.now p (sym d.1) (rw d.1 d.0) (rw c.in-Some-with_digit.ensures.0 at c.in-Some-with_digit.ensures.1))

pub returns-clause-found : goal.returns-clause-found
returns-clause-found c = digits_end c.args.radix c.args.bytes.now c.loop-b.value c.loop-b.rest.now c.requires.high c.requires.some (rw c.in_default.ensures (tt {0})) c.loop-b.invariant
