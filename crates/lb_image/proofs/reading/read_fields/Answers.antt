use Rattle.std.proofs.Common.{arith}
use Rattle.std.proofs.lemmas.Result.{err_from_is_err_and}
use Rattle.lb_image.specs.InternalReading.{field_at, repeat_at}
use Rattle.lb_image.proofs.LoopLemmas.{goes_on, ends, is_done}
use Rattle.lb_image.proofs.reading.read_fields.Goals as goal

pub returns-in_err-word-clause-read : goal.returns-in_err-word-clause-read
returns-in_err-word-clause-read c =
    let read = field_at c.args.len c.args.field in
    let p = err_from_is_err_and c.from_residual.result c.from_residual.ensures.1 in
    rw (p.1, p.2)
    (ends read c.in_err-word.field-0.0 c.loop.words.items c.args.count c.loop.counter c.loop.rest.now
    (repeat_at read c.args.count c.args.bytes.now) c.loop-test.true c.in_err-word.ensures.read c.loop.invariant.read)

pub loop-preserved : goal.loop-preserved
loop-preserved c =
    let read = field_at c.args.len c.args.field in
    record {
      read = rw c.in_ok-push.ensures.items
          (goes_on read c.loop.words.items c.args.count c.loop.counter c.loop.rest.now c.in_ok-word.word c.in_ok-word.after.now
          (repeat_at read c.args.count c.args.bytes.now) c.loop-test.true c.in_ok-word.ensures.read c.loop.invariant.read);
      left = omega (arith, c.in_ok-word.ensures.left, c.loop.invariant.left);
    }

pub returns-clause-read : goal.returns-clause-read
returns-clause-read c =
    let read = field_at c.args.len c.args.field in
    is_done read c.loop.words.items c.args.count c.loop.counter c.loop.rest.now (repeat_at read c.args.count c.args.bytes.now)
    c.loop-test.false c.loop.invariant.read
