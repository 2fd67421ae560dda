use Rattle.std.proofs.Common.{◌≡◌, ◌≤◌, ◌+◌, ◌*◌, drop}
use Rattle.lb_emit_laws.specs.Code.{places_words}
use Rattle.lb_emit.specs.InternalEmit.{HaveSlots}
use Rattle.lb_emit.specs.InternalFrame.{frame_in}
use Rattle.lb_emit.proofs.frame.Frame.words_of_places.Given as goal

-- what is counted, and what is left to count, is all
abbrev pub invariant-loop-place : goal.invariant-loop-place
invariant-loop-place l = record {
  slots : HaveSlots l.self.slots (drop l.place-index l.places);
  count : l.words + places_words (frame_in l.self) (drop l.place-index l.places) ≡ places_words (frame_in l.self) l.places;
  few : l.words ≤ 3 * l.place-index;
}
