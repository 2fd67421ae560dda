use Rattle.std.proofs.Common.{arith}
use Rattle.std.proofs.lemmas.Result.{err_from_is_err_and}
use Rattle.lb_image.specs.InternalReading.{frame_at, repeat_at}
use Rattle.lb_image.proofs.LoopLemmas.{goes_on, ends, is_done}
use Rattle.lb_image.proofs.reading.read_frames.Goals as goal

pub returns-in_err-frame-clause-read : goal.returns-in_err-frame-clause-read
returns-in_err-frame-clause-read c =
    let read = frame_at c.args.len in
    let p = err_from_is_err_and c.from_residual.result c.from_residual.ensures.1 in
    rw (p.1, p.2)
    (ends read c.in_err-frame.field-0.0 c.loop.frames c.args.count c.loop.counter c.loop.rest.now
    (repeat_at read c.args.count c.args.bytes.now) c.loop-test.true c.in_err-frame.ensures.read c.loop.invariant.read)

pub loop-preserved : goal.loop-preserved
loop-preserved c =
    let read = frame_at c.args.len in
    record {
      read = rw c.in_ok-push.ensures.ok
          (goes_on read c.loop.frames c.args.count c.loop.counter c.loop.rest.now c.in_ok-frame.frame c.in_ok-frame.after.now
          (repeat_at read c.args.count c.args.bytes.now) c.loop-test.true c.in_ok-frame.ensures.read c.loop.invariant.read);
      least = omega (arith, c.in_ok-frame.ensures.least, c.loop.invariant.least);
      most = omega (arith, c.in_ok-frame.ensures.most, c.loop.invariant.most);
    }

pub returns-clause-read : goal.returns-clause-read
returns-clause-read c =
    let read = frame_at c.args.len in
    is_done read c.loop.frames c.args.count c.loop.counter c.loop.rest.now (repeat_at read c.args.count c.args.bytes.now)
    c.loop-test.false c.loop.invariant.read
