use Rattle.std.proofs.Common.{◌≡◌, ◌≤◌, inl, inr, ℕ, Some, None, sym, subst, ◌∙◌, arith}
use Rattle.std.specs.Prelude.{IfSome}
use Rattle.lb_system.specs.InternalLarge.{events_of}
use Rattle.lb_system.proofs.LargeRuns.{count_done, count_stopped, nothing_done, one_done}
use Rattle.lb_system.proofs.large.code_events.Goals as goal
use Rattle.lb_system.proofs.large.code_events.Goals.{then-loop-done-test+else-events-lt-MOST_COUNTED, else-loop-done-test}

pub loop-done-init : goal.loop-done-init
loop-done-init c = record {
  behind = nothing_done c.args.code.now c.args.entry c.in_ok-isa.isa c.in_ok-isa.ensures.code c.in_ok-isa.ensures.processor;
  within = omega arith;
  few = omega arith;
}

pub loop-done-preserved : goal.loop-done-preserved
loop-done-preserved c =
    let more : ℕ = c.in-Some.more in
    let is : events_of c.step.result ≡ Some more = sym c.events_of.ensures.count ∙ c.in-Some.is in
    let one : more ≤ 1 = subst (λ o. IfSome o (λ n. n ≤ 1)) c.in-Some.is c.events_of.ensures.one in
    record {
      behind =
          one_done c.args.code.now c.args.entry c.loop-done.done c.loop-done.isa c.step.new.self c.step.result more c.loop-done.events c.loop-done.invariant.behind
          c.step.ensures.answer c.step.ensures.processor c.step.ensures.code is;
      within = omega (arith, c.loop-done-test.true);
      few = omega (arith, one, c.if-events-lt-MOST_COUNTED.true);
    }

pub returns-in-None : goal.returns-in-None
returns-in-None c =
    let is : events_of c.step.result ≡ None = sym c.events_of.ensures.count ∙ c.in-None.is in
    count_stopped c.args.code.now c.args.entry c.loop-done.done c.args.limit 64 c.loop-done.isa c.step.result c.loop-done.events c.loop-done.invariant.behind
    c.step.ensures.answer is c.loop-done.invariant.within c.loop-done.invariant.few

pub returns : goal.returns
returns c =
    let done = c.loop-done in
    elim c.loop-done-test.branch [
      | then-loop-done-test+else-events-lt-MOST_COUNTED w ↦
          count_done c.args.code.now c.args.entry done.done c.args.limit 64 done.isa done.events done.invariant.behind done.invariant.within done.invariant.few
          (inr (omega (arith, w.if-events-lt-MOST_COUNTED.false)))
      | else-loop-done-test w ↦
          count_done c.args.code.now c.args.entry done.done c.args.limit 64 done.isa done.events done.invariant.behind done.invariant.within done.invariant.few
          (inl (omega (arith, w.loop-done-test.false)))
    ]
