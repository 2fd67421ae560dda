use Rattle.lb_source.specs.InternalMachine.{functions_of}
use Rattle.lb_source.proofs.EverFacts.{whole_ends, whole_goes}
use Rattle.lb_source.proofs.whole.run_whole.Goals as goal

pub returns-in-On : goal.returns-in-On
returns-in-On c =
    let p = functions_of c.args.interpreter.now in
    whole_goes p c.args.m.now c.run_call.new.m c.run_for_ever.result c.run_for_ever.new.m (rw c.in-On.is at c.in_ok-run_call.ensures.follows) c.run_call.ensures.fuel c.run_for_ever.ensures

pub returns-in-End : goal.returns-in-End
returns-in-End c =
    let p = functions_of c.args.interpreter.now in
    whole_ends p c.args.m.now c.run_call.new.m c.in-End.end (rw c.in-End.is at c.in_ok-run_call.ensures.follows)
