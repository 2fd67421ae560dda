use Rattle.std.proofs.Common.{◌≡◌, drop}
use Rattle.lb_emit_laws.specs.Frames.{sets_in_places}
use Rattle.lb_emit.proofs.sets.places_have.Given as goal

-- none so far
abbrev pub invariant-loop-place : goal.invariant-loop-place
invariant-loop-place l = sets_in_places (drop l.place-index l.places) l.register ≡ sets_in_places l.places l.register
