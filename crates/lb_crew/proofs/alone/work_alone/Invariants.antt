use Rattle.std.proofs.Common.{length, ◌-◌}
use Rattle.lb_crew.proofs.DrawLemmas.{Going}
use Rattle.lb_crew.proofs.alone.work_alone.Given as goal

abbrev pub invariant-loop-passes : goal.invariant-loop-passes
invariant-loop-passes g l = Going l.events l.seed l.fn.machine l.machine l.draws

abbrev pub decreases-loop-passes : goal.decreases-loop-passes
decreases-loop-passes g l = l.machine.fixed.max_events - length l.machine.log
