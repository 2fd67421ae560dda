-- When a machine fires a kind, and why it doesn't.
use Rattle.std.specs.Prelude.{◌≡◌, ◌<◌, ℕ, true, false, List, length, Option, Some, None}
use Rattle.lb_trace.specs.declared.Entry.{Entry}
use Rattle.lb_trace.specs.declared.Kind.{Kind}
use Rattle.lb_rv.specs.declared.instr.Cause.{Cause}
use Rattle.lb_machine.specs.declared.fault.NotFired.{NotFired}
use Rattle.lb_machine.specs.declared.fault.NotFired.TheVariants.{Halted, Full, GuardFalse}
use Rattle.lb_machine.specs.State.{Job}
use Rattle.lb_machine.specs.Logs.{may_fire, replay}

-- what of a machine never changes: its job, and the most entries of its log
pub record FixedContent : Type 0 where
  pub job : Job
  pub max_events : ℕ

-- why the core is halted after the log, if it is
abbrev pub halted_after : Job → List Entry → Option Cause
halted_after job log = (replay job log).core.halted

-- after the log a kind isn't fired for this reason: the core is halted by the cause; else the log
-- is full; else the guard is false. After a log that isn't longer than it may be no two of them
-- hold, and one does exactly where `Fires` doesn't
abbrev pub Refuses : FixedContent → List Entry → Kind → NotFired → Type 0
Refuses fixed log kind (Halted cause) = halted_after fixed.job log ≡ Some cause
Refuses fixed log kind Full =
    (halted_after fixed.job log ≡ None) × (length log ≡ fixed.max_events)
Refuses fixed log kind GuardFalse =
    (halted_after fixed.job log ≡ None) × (length log < fixed.max_events)
    × (may_fire fixed.job log kind ≡ false)

-- after the log a kind is fired
abbrev pub Fires : FixedContent → List Entry → Kind → Type 0
Fires fixed log kind = (length log < fixed.max_events) × (may_fire fixed.job log kind ≡ true)
