use Rattle.std.proofs.Common.{length}
use Rattle.lb_lines.proofs.LogLemmas.{AreEntriesSoFar}
use Rattle.lb_lines.proofs.log.EntryLineForm.append.Given as goal

-- the line before the rest says the entries that were added
abbrev pub invariant-loop-pair : goal.invariant-loop-pair
invariant-loop-pair l = AreEntriesSoFar l.line l.rest l.fn.values.items l.values.items

abbrev pub decreases-loop-pair : goal.decreases-loop-pair
decreases-loop-pair l = length l.rest
