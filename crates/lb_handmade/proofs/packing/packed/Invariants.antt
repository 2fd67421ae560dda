use Rattle.std.proofs.Common.{◌≡◌, ◌+◌, ◌++◌, drop, sum}
use Rattle.lb_handmade.specs.Packed.{starts}
use Rattle.lb_handmade.proofs.packing.packed.Given as goal

-- what is there and what is still to come is all
abbrev pub invariant-loop-size : goal.invariant-loop-size
invariant-loop-size l = record {
  total : l.end + sum (drop l.size-index l.sizes) ≡ sum l.sizes;
  offsets : l.offsets ++ starts l.end (drop l.size-index l.sizes) ≡ starts 0 l.sizes;
}
