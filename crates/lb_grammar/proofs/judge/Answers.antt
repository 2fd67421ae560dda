use Rattle.std.proofs.Common.{arith}
use Rattle.lb_grammar.proofs.Followings.{stands_on, leaves, no_prefix, is_prefix, rounds_are}
use Rattle.lb_grammar.proofs.judge.Goals as goal

pub returns-in-None-clause-prefix : goal.returns-in-None-clause-prefix
returns-in-None-clause-prefix c = ((λ h. absurd h), no_prefix c.args.trace.now c.loop-i.i c.loop-i.state c.loop-i.invariant _ c.loop-i-test.true c.after.result c.after.ensures.step c.in-None.is)

pub returns-in-None-clause-place : goal.returns-in-None-clause-place
returns-in-None-clause-place c = leaves c.args.trace.now c.loop-i.i c.loop-i.state c.loop-i.invariant _ c.loop-i-test.true c.after.result c.after.ensures.step c.in-None.is

pub loop-i-preserved : goal.loop-i-preserved
loop-i-preserved c = stands_on c.args.trace.now c.loop-i.i c.loop-i.state c.loop-i.invariant _ c.loop-i-test.true c.after.result c.after.ensures.step c.in-Some.next c.in-Some.is c.after.ensures.few

pub returns-clause-prefix : goal.returns-clause-prefix
returns-clause-prefix c = ((λ h. is_prefix c.args.trace.now c.loop-i.i c.loop-i.state c.loop-i.invariant (omega (arith, c.loop-i-test.false))), (λ h. tt))

pub returns-clause-rounds : goal.returns-clause-rounds
returns-clause-rounds c = rounds_are c.args.trace.now c.loop-i.i c.loop-i.state c.loop-i.invariant (omega (arith, c.loop-i-test.false)) c.rounds.result c.rounds.ensures
