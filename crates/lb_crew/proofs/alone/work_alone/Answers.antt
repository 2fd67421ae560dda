use Rattle.std.proofs.Common.{ℕ, sym, subst, inl}
use Rattle.lb_trace.specs.declared.Kind.{Kind}
use Rattle.lb_crew.specs.InternalDraws.{FiresFirst}
use Rattle.lb_crew.proofs.DrawLemmas.{Going, begun, stopped, went_on}
use Rattle.lb_crew.proofs.alone.work_alone.Goals as goal

pub loop-passes-init : goal.loop-passes-init
loop-passes-init g c =
    subst (λ (s : ℕ). Going c.args.events c.args.seed c.args.machine c.args.machine s) (sym c.new-draws.ensures)
    (begun c.args.events c.args.seed c.args.machine)

pub loop-passes-preserved : goal.loop-passes-preserved
loop-passes-preserved g c =
    let m = c.loop-passes.machine in
    let new = c.fire_first.new.machine in
    let few = c.has_fewer.ensures.fewer.0 c.loop-passes-test.true in
    subst (λ (s : ℕ). Going c.args.events c.args.seed c.args.machine new s) (sym c.draw_kind-first.ensures.draws)
    (went_on c.args.events c.args.seed c.args.machine m new c.loop-passes.draws c.loop-passes.invariant c.has_fewer.ensures.replay few
    c.fire_first.ensures.fixed
    (subst (λ (k : Kind). FiresFirst k m new) c.draw_kind-first.ensures.kind (c.fire_first.ensures.fired c.if-not-fire_first.false)))

pub returns-then-not-fire_first-clause-drawn : goal.returns-then-not-fire_first-clause-drawn
returns-then-not-fire_first-clause-drawn g c =
    let m = c.loop-passes.machine in
    let not = c.if-not-fire_first.true in
    let done = stopped c.args.events c.args.seed c.args.machine m c.loop-passes.draws c.loop-passes.invariant c.has_fewer.ensures.replay
    (inl (c.fire_first.ensures.ended not)) in
    rw (c.fire_first.ensures.same not) done

pub returns-then-not-fire_first-clause-replay : goal.returns-then-not-fire_first-clause-replay
returns-then-not-fire_first-clause-replay g c = rw (c.fire_first.ensures.same c.if-not-fire_first.true) c.has_fewer.ensures.replay
