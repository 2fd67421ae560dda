use Rattle.std.proofs.Common.{◌≡◌, ◌+◌, ◌*◌, ◌-◌, length}
use Rattle.lb_image.specs.InternalReading.{field_at, repeat_at}
use Rattle.lb_image.proofs.LoopLemmas.{with_front}
use Rattle.lb_image.proofs.reading.read_fields.Given as goal

-- what was read and what is still read is all that is to be read
abbrev pub invariant-loop : goal.invariant-loop
invariant-loop l = record {
  read : with_front l.words.items (repeat_at (field_at l.len l.field) (l.count - l.counter) l.rest) ≡ repeat_at (field_at l.len l.field) l.count l.bytes;
  left : length l.bytes ≡ length l.rest + 4 * l.counter;
}
