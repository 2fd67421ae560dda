use Rattle.std.proofs.Common.{length}
use Rattle.lb_text.proofs.Lists.{NamesSoFar}
use Rattle.lb_text.proofs.names.more_names.Given as goal

abbrev pub invariant-loop-names : goal.invariant-loop-names
invariant-loop-names l = NamesSoFar l.depth l.more l.initial.names l.names l.bytes l.rest

abbrev pub decreases-loop-names : goal.decreases-loop-names
decreases-loop-names l = length l.rest
