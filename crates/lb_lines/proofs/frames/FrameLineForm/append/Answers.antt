use Rattle.std.proofs.Common.{◌<◌, ◌≤◌, length, arith, rules, ap}
use Rattle.lb_lines.specs.Forms.{frame_form}
use Rattle.lb_lines.specs.InternalReading.{Refuses}
use Rattle.lb_lines.proofs.FrameLemmas.{refuses_frame, frame_too_long, frame_too_many}
use Rattle.lb_lines.proofs.frames.FrameLineForm.append.Goals as goal

pub returns-in_err-frame-clause-refused : goal.returns-in_err-frame-clause-refused
returns-in_err-frame-clause-refused c =
    let h : Refuses frame_form c.args.line.now c.args.values.now.items c.in_err-frame.field-0.0 =
    refuses_frame c.args.line.now c.args.values.now.items c.in_err-frame.field-0.0 c.in_err-frame.ensures.refused in
    search rules

pub returns-then-bytes-gt-MOST_BYTES-clause-refused : goal.returns-then-bytes-gt-MOST_BYTES-clause-refused
returns-then-bytes-gt-MOST_BYTES-clause-refused c =
    let long : 2000 < length c.in_ok-frame.frame.bytes = omega (arith, ap length c.bytes.ensures) in
    frame_too_long c.args.line.now c.args.values.now.items c.in_ok-frame.frame c.in_ok-frame.ensures.read long

pub returns-then-len-ge-MOST_FRAMES-clause-refused : goal.returns-then-len-ge-MOST_FRAMES-clause-refused
returns-then-len-ge-MOST_FRAMES-clause-refused c =
    let short : length c.in_ok-frame.frame.bytes ≤ 2000 = omega (arith, ap length c.bytes.ensures) in
    frame_too_many c.args.line.now c.args.values.now.items c.in_ok-frame.frame c.in_ok-frame.ensures.read short (omega arith)
