use Rattle.lb_flat.specs.Located.{place_of}
use Rattle.lb_alloc.proofs.SeparationLemmas.{next_apart, not_apart}
use Rattle.lb_alloc.proofs.separation.are_apart.Goals as goal

pub returns-then-not-is_alone : goal.returns-then-not-is_alone
returns-then-not-is_alone c =
    (λ e. cc, λ a. absurd (not_apart (place_of c.args.places.now) c.args.behind.now c.args.sets.now c.loop-variable.variable-index c.loop-variable-test.true (λ k. let yes = c.is_alone.ensures.1 k in let no = c.if-not-is_alone.true in cc) c.loop-variable.invariant a))

pub loop-variable-preserved : goal.loop-variable-preserved
loop-variable-preserved c =
    next_apart (place_of c.args.places.now) c.args.behind.now c.args.sets.now c.loop-variable.variable-index c.loop-variable-test.true (c.is_alone.ensures.0 c.if-not-is_alone.false) c.loop-variable.invariant
