use Rattle.std.proofs.Common.{◌∙◌, arith, subst}
use Rattle.lb_machine.specs.Refusals.{Refuses}
use Rattle.lb_crew.proofs.DrawLemmas.{searched_on, some_enabled}
use Rattle.lb_crew.proofs.KindLemmas.{next_behind}
use Rattle.lb_crew.proofs.alone.fire_first.Goals as goal

pub loop-preserved : goal.loop-preserved
loop-preserved g c =
    let i = c.loop.invariant in
    let e = c.in-Err-GuardFalse in
    let on = searched_on c.args.machine.now c.loop.machine c.args.first c.loop.kind c.loop.counter i.0 i.1 i.2
    (subst (Refuses c.loop.machine.fixed c.loop.machine.log c.loop.kind) e.field-0-is e.ensures.reason) in
    (e.ensures.err ∙ i.0, c.next_kind-kind.ensures ∙ next_behind c.args.first c.loop.kind c.loop.counter i.1, on.0, λ some. on.1)

pub unreachable-requires : goal.unreachable-requires
unreachable-requires g c =
    let i = c.loop.invariant in
    let ended = c.loop-test.false in
    some_enabled c.args.machine.now.fixed.job c.args.machine.now.log c.args.first (i.3 (omega (arith, ended)))
    (λ n b. i.2 n (omega (arith, ended, b)))
