use Rattle.std.proofs.Common.{◌≡◌, ◌≤◌, ◌-◌}
use Rattle.lb_steps.specs.Runs.{run}
use Rattle.lb_isa.specs.Moves.{move}
use Rattle.lb_isa.specs.Runs.{isa}
use Rattle.lb_isa.specs.InternalSteps.{run_of}
use Rattle.lb_isa.proofs.runner.run.Given as goal

abbrev pub invariant-loop-runner : goal.invariant-loop-runner
invariant-loop-runner l = record {
  code : l.runner.isa.code ≡ l.code;
  within : l.runner.committed ≤ l.limit;
  same : isa l.code l.entry l.replies l.limit ≡ run (move l.code) (l.limit - l.runner.committed) (run_of l.runner);
}

abbrev pub decreases-loop-runner : goal.decreases-loop-runner
decreases-loop-runner l = l.limit - l.runner.committed
