-- What worker 0 alone adds to a log.
use Rattle.std.specs.Prelude.{◌≡◌, ◌≤◌, ◌<◌, ◌%◌, ◌⊎◌, ℕ, zero, suc, true, false, List, ◌++◌, length, take, slice_get, All, Option, Some, None}
use Rattle.lb_trace.specs.declared.Entry.{Entry}
use Rattle.lb_trace.specs.declared.Event.{Event}
use Rattle.lb_trace.specs.declared.Kind.{Kind}
use Rattle.lb_trace.specs.declared.Kind.TheVariants.{Fetch, Decode, Execute, Ram, Mmio, Writeback, Boot, Shift, Arrive}
use Rattle.lb_rv.specs.declared.instr.Cause.{Cause}
use Rattle.lb_draws.specs.Draws.{draw}
use Rattle.lb_machine.specs.Logs.{may_fire, replay}
use Rattle.lb_machine.specs.Machines.{MachineContent}
use Rattle.lb_machine.specs.Refusals.{halted_after}
use Rattle.lb_machine.specs.State.{Job}
use Rattle.lb_crew.specs.declared.draws.TheConstants.{KINDS}

-- the kind behind this one, and behind the last one the first
abbrev pub next_kind : Kind → Kind
next_kind Fetch = Decode
next_kind Decode = Execute
next_kind Execute = Ram
next_kind Ram = Mmio
next_kind Mmio = Writeback
next_kind Writeback = Boot
next_kind Boot = Shift
next_kind Shift = Arrive
next_kind Arrive = Fetch

-- the kind so many places behind this one
abbrev pub kind_behind : Kind → ℕ → Kind
kind_behind kind zero = kind
kind_behind kind (suc n) = next_kind (kind_behind kind n)

-- the kind that a draw tells
abbrev pub kind_of : ℕ → Kind
kind_of x = kind_behind Fetch (x % KINDS)

-- the kind is the first one, from `first` on, that may be fired after the log
pub record IsFirstEnabled (job : Job) (log : List Entry) (first kind : Kind) : Type 0 where
  pub places : ℕ
  pub stands : kind ≡ kind_behind first places
  pub enabled : may_fire job log kind ≡ true
  pub others : (n : ℕ) → n < places → may_fire job log (kind_behind first n) ≡ false

-- the entries that are added to the old log are those that worker 0 draws: the kind of number n is
-- the first one, from that of draw n on, that may be fired after the old log and the n before it
pub record AreDrawn (seed : ℕ) (job : Job) (old added : List Entry) : Type 0 where
  pub workers : All (λ e. e.worker ≡ 0) added
  pub kinds : (n : ℕ) (e : Entry) → slice_get added n ≡ Some e
      → IsFirstEnabled job (old ++ take n added) (kind_of (draw seed 0 n)) e.kind

-- the log has as many entries as it may have, or the core is halted after it
abbrev pub HasEnded : MachineContent → Type 0
HasEnded m =
    (length m.log ≡ m.fixed.max_events)
    ⊎ ((cause : Cause) × (halted_after m.fixed.job m.log ≡ Some cause))

-- the machine is done: it has ended or, where so many events are asked for, its trace has them
abbrev pub IsDone : Option ℕ → MachineContent → Type 0
IsDone None m = HasEnded m
IsDone (Some events) m = HasEnded m ⊎ (events ≤ length m.trace)

-- the trace has fewer events than are asked for, as each has where none are
abbrev pub HasFewer : Option ℕ → List Event → Type 0
HasFewer None trace = Unit {0}
HasFewer (Some events) trace = length trace < events

-- worker 0 alone went on from the old machine until it was done, and after fewer entries there were
-- too few events
pub record IsDrawnWithin (events : Option ℕ) (seed : ℕ) (old new : MachineContent) : Type 0 where
  pub added : List Entry
  pub begins : new.log ≡ old.log ++ added
  pub drawn : AreDrawn seed old.fixed.job old.log added
  pub fits : length new.log ≤ old.fixed.max_events
  pub ended : IsDone events new
  pub fewer : (n : ℕ) → n < length added
      → HasFewer events (replay old.fixed.job (old.log ++ take n added)).trace

-- worker 0 alone went on from the old machine until it ended
abbrev pub IsDrawn : ℕ → MachineContent → MachineContent → Type 0
IsDrawn = IsDrawnWithin None

-- the same until it ended or the trace had so many events, as it had after no fewer entries
abbrev pub IsDrawnUntil : ℕ → ℕ → MachineContent → MachineContent → Type 0
IsDrawnUntil events = IsDrawnWithin (Some events)
