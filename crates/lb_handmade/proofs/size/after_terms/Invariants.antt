use Rattle.std.proofs.Common.{◌≡◌, ◌+◌, drop}
use Rattle.std.specs.Prelude.{map, sum}
use Rattle.lb_syntax.specs.Tree.{term_of}
use Rattle.lb_syntax.specs.Needs.{nodes}
use Rattle.lb_handmade.proofs.size.after_terms.Given as goal

-- what is left, and what is still to take, is the room
abbrev pub invariant-loop-e : goal.invariant-loop-e
invariant-loop-e l = l.left + sum (map nodes (map term_of l.es)) ≡ l.room + sum (map nodes (map term_of (drop l.e-index l.es)))
