use Rattle.std.proofs.Common.{◌≡◌, ◌+◌, ◌++◌, length, drop}
use Rattle.lb_emit_laws.specs.Code.{puts_code, places_words}
use Rattle.lb_emit.specs.InternalEmit.{HaveSlots}
use Rattle.lb_emit.proofs.emitter.Emitter.put_places.Given as goal

-- the code so far, and that of the places that are left, is all
abbrev pub invariant-loop-place : goal.invariant-loop-place
invariant-loop-place l =
    let left = drop l.place-index l.places in
    record {
      slots : HaveSlots l.self.frame.slots left;
      count : l.register ≡ 10 + l.place-index;
      code : l.code ++ puts_code l.self.frame left l.register ≡ l.fn.code ++ puts_code l.self.frame l.places 10;
      long : length l.code + places_words l.self.frame left ≡ length l.fn.code + places_words l.self.frame l.places;
    }
