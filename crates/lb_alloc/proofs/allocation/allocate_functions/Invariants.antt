use Rattle.std.proofs.Common.{take}
use Rattle.lb_alloc.specs.InternalOwn.{AreServed}
use Rattle.lb_alloc.proofs.allocation.allocate_functions.Given as goal

abbrev pub invariant-loop-f : goal.invariant-loop-f
invariant-loop-f l = AreServed (take l.f-index l.f-items) l.lists.items
