use Rattle.std.proofs.Common.{◌+◌, ◌-◌, ◌*◌}
use Rattle.lb_text.proofs.term.+term.Given as goal

abbrev pub decreases-term : goal.decreases-term
decreases-term l = 3 * (64 - l.depth) + 2

abbrev pub decreases-term_from : goal.decreases-term_from
decreases-term_from l = 3 * (64 - l.depth) + 1

abbrev pub decreases-load : goal.decreases-load
decreases-load l = 3 * (64 - l.depth)

abbrev pub decreases-operation : goal.decreases-operation
decreases-operation l = 3 * (64 - l.depth) + 3
