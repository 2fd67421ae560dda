-- What holds of all runs of worker 0 alone.
use Rattle.std.specs.Prelude.{◌≡◌, ℕ, Option}
use Rattle.lb_machine.specs.Machines.{IsReplay, MachineContent}
use Rattle.lb_crew.specs.Drawn.{IsDrawnWithin}

-- worker 0 alone went on from the old machine: what `serial` and `serial_until` promise
pub record RunsAlone (events : Option ℕ) (seed : ℕ) (old new : MachineContent) : Type 0 where
  pub fixed : new.fixed ≡ old.fixed
  pub drawn : IsDrawnWithin events seed old new
  pub replay : IsReplay new

-- from one job, one limit and one log the seed decides the log and the trace of such a run
abbrev pub SeedDecides : Type 0
SeedDecides =
    (events : Option ℕ) (seed : ℕ) (old new other_old other_new : MachineContent)
    → other_old.fixed ≡ old.fixed → other_old.log ≡ old.log
    → RunsAlone events seed old new → RunsAlone events seed other_old other_new
    → (other_new.log ≡ new.log) × (other_new.trace ≡ new.trace)
