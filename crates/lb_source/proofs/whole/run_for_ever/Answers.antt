use Rattle.lb_source.specs.InternalMachine.{functions_of}
use Rattle.lb_source.proofs.EverFacts.{ever_next, ever_ends}
use Rattle.lb_source.proofs.whole.run_for_ever.Goals as goal

pub again-preserved : goal.again-preserved
again-preserved c =
    let p = functions_of c.args.interpreter.now in
    ever_next p c.args.m.now c.again.m c.run_call.new.m c.again.invariant (rw c.in-On.is at c.in_ok-run_call.ensures.follows) (c.in_ok-run_call.ensures.spends c.in-On.is) c.in_ok-run_call.ensures.stack

pub returns-in-End : goal.returns-in-End
returns-in-End c =
    let p = functions_of c.args.interpreter.now in
    ever_ends p c.args.m.now c.again.m c.run_call.new.m c.again.invariant c.in-End.end (rw c.in-End.is at c.in_ok-run_call.ensures.follows)
