use Rattle.std.proofs.Common.{◌≡◌, ◌+◌, ◌*◌, ◌-◌, ◌≤◌, length}
use Rattle.lb_image.specs.InternalReading.{frame_at, repeat_at, most_frame_bytes}
use Rattle.lb_image.proofs.LoopLemmas.{with_front}
use Rattle.lb_image.proofs.reading.read_frames.Given as goal

-- what was read and what is still read is all that is to be read
abbrev pub invariant-loop : goal.invariant-loop
invariant-loop l = record {
  read : with_front l.frames (repeat_at (frame_at l.len) (l.count - l.counter) l.rest) ≡ repeat_at (frame_at l.len) l.count l.bytes;
  least : length l.rest ≤ length l.bytes;
  most : length l.bytes ≤ length l.rest + most_frame_bytes * l.counter;
}
