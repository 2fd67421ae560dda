use Rattle.std.proofs.Common.{◌<◌, ◌^◌, refl, arith}
use Rattle.lb_lines.proofs.WordLemmas.{word_more, small_word, word_whole, no_digit}
use Rattle.lb_lines.proofs.digits.word.Goals as goal

pub loop-c-init : goal.loop-c-init
loop-c-init c = record { below = omega arith; same = refl }

pub overflow_mul-word : goal.overflow_mul-word
overflow_mul-word c =
    let small : c.loop-c.word < 2 ^ 28 = small_word _ _ (omega arith) c.loop-c.invariant.below in
    omega arith

pub returns-in_err-digit-clause-none : goal.returns-in_err-digit-clause-none
returns-in_err-digit-clause-none c =
    rw c.from_residual.ensures (no_digit c.args.digits.now c.loop-c.c-index (omega arith) c.in_err-digit.ensures.none)

pub loop-c-preserved : goal.loop-c-preserved
loop-c-preserved c =
    rw c.from.ensures (word_more c.args.digits.now c.loop-c.c-index c.loop-c.word _ (omega arith) c.in_ok-digit.ensures.found c.loop-c.invariant)

pub returns-clause-found : goal.returns-clause-found
returns-clause-found c = word_whole c.args.digits.now c.loop-c.c-index c.loop-c.word (omega arith) (omega arith) c.loop-c.invariant
