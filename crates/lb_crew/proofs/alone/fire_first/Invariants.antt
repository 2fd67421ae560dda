use Rattle.std.proofs.Common.{◌≡◌, ◌<◌, ℕ, false, None}
use Rattle.lb_machine.specs.Logs.{may_fire}
use Rattle.lb_machine.specs.Refusals.{halted_after}
use Rattle.lb_crew.specs.Drawn.{kind_behind}
use Rattle.lb_crew.proofs.alone.fire_first.Given as goal

-- the kinds so far may not be fired, and the core isn't halted if there were any
abbrev pub invariant-loop : goal.invariant-loop
invariant-loop g l = (l.machine ≡ l.fn.machine) × (l.kind ≡ kind_behind l.fn.first l.counter)
    × ((n : ℕ) → n < l.counter → may_fire l.fn.machine.fixed.job l.fn.machine.log (kind_behind l.fn.first n) ≡ false)
    × (0 < l.counter → halted_after l.fn.machine.fixed.job l.fn.machine.log ≡ None)
