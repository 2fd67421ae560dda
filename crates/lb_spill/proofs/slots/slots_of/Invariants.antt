use Rattle.std.proofs.Common.{◌≡◌, ◌≤◌, drop, max}
use Rattle.lb_spill.specs.InternalSpill.{slots_of}
use Rattle.lb_spill.proofs.slots.slots_of.Given as goal

-- the most so far and the most of what is left are the most of all
abbrev pub invariant-loop-place : goal.invariant-loop-place
invariant-loop-place l = record {
  most : max l.slots (slots_of (drop l.place-index l.places)) ≡ slots_of l.places;
  few : l.slots ≤ l.variables;
}
