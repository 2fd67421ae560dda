use Rattle.std.proofs.Common.{◌-◌, ◌≤◌}
use Rattle.lb_system.specs.InternalLarge.{IsBehind}
use Rattle.lb_system.proofs.large.code_events.Given as goal

abbrev pub invariant-loop-done : goal.invariant-loop-done
invariant-loop-done l = record {
  behind : IsBehind l.code l.entry l.done l.isa l.events;
  within : l.done ≤ l.limit;
  few : l.events ≤ 64;
}

abbrev pub decreases-loop-done : goal.decreases-loop-done
decreases-loop-done l = l.limit - l.done
