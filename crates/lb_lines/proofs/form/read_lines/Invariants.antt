use Rattle.std.proofs.Common.{length}
use Rattle.lb_lines.proofs.LineLemmas.{IsReadUpTo}
use Rattle.lb_lines.proofs.form.read_lines.Given as goal

-- the pieces before the rest say the values
abbrev pub invariant-lines : goal.invariant-lines
invariant-lines g l = IsReadUpTo g.T.LineForm.form l.fn.first_line l.fn.text l.number l.rest l.values.items

abbrev pub decreases-lines : goal.decreases-lines
decreases-lines g l = length l.rest
