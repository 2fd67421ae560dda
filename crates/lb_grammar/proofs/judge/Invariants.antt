use Rattle.lb_grammar.proofs.Followings.{StandsAt}
use Rattle.lb_grammar.proofs.judge.Given as goal

abbrev pub invariant-loop-i : goal.invariant-loop-i
invariant-loop-i l = StandsAt l.trace l.i l.state
