-- What holds of all cores.
use Rattle.std.specs.Prelude.{◌≡◌, ◌≤◌, ℕ, ◌+◌, ◌*◌, true, List, [], length, None}
use Rattle.lb_trace.specs.declared.Kind.{Kind}
use Rattle.lb_core.specs.Potential.{Fits, credit, debt, rise}
use Rattle.lb_core.specs.Rows.{answered, booted_core, done_of, fired, is_enabled}
use Rattle.lb_core.specs.Schedules.{AreEnabled, Step, after_steps, trace_after}
use Rattle.lb_core.specs.Stands.{Stands, StandsAfter}
use Rattle.lb_core.specs.State.{CoreState}

-- a booted core stands for the empty trace
abbrev pub BootedStands : Type 0
BootedStands = (code : List ℕ) (entry : ℕ) → Stands (booted_core code entry) []

-- a kind that is enabled, with any reply, keeps what the core stands for
abbrev pub RowsStand : Type 0
RowsStand = (c : CoreState) (kind : Kind) (reply : ℕ) → is_enabled c kind ≡ true → StandsAfter c (fired c kind reply) (answered c kind reply)

-- in whatever order its rows are fired, and whatever the devices reply, a booted core stands for the events that came
abbrev pub EveryOrderStands : Type 0
EveryOrderStands =
    (code : List ℕ) (entry : ℕ) (steps : List Step) → AreEnabled (booted_core code entry) steps
    → Stands (after_steps (booted_core code entry) steps) (trace_after [] (booted_core code entry) steps)

-- a core that isn't halted has a kind that is enabled
abbrev pub NeverStuck : Type 0
NeverStuck = (c : CoreState) → c.halted ≡ None → (kind : Kind) × (is_enabled c kind ≡ true)

-- no queue of a booted core holds more than its capacity
abbrev pub BootedFits : Type 0
BootedFits = (code : List ℕ) (entry : ℕ) → Fits (booted_core code entry)

-- so it stays
abbrev pub RowsFit : Type 0
RowsFit = (c : CoreState) (kind : Kind) (reply : ℕ) → Fits c → is_enabled c kind ≡ true → Fits (fired c kind reply)

-- each step raises the potential
abbrev pub PotentialRises : Type 0
PotentialRises =
    (c : CoreState) (kind : Kind) (reply : ℕ) → Fits c → is_enabled c kind ≡ true
    → credit c + debt (fired c kind reply) + rise kind ≤ credit (fired c kind reply) + debt c

-- the potential is bounded by the instructions that are done
abbrev pub PotentialIsBounded : Type 0
PotentialIsBounded = (c : CoreState) → Fits c → credit c ≤ debt c + 15 * done_of c + 33

-- so no order has many steps that do nothing: from boot on there are at most fifteen for each instruction that is done, and 33
abbrev pub StepsAreBounded : Type 0
StepsAreBounded =
    (code : List ℕ) (entry : ℕ) (steps : List Step) → AreEnabled (booted_core code entry) steps
    → length steps ≤ 15 * done_of (after_steps (booted_core code entry) steps) + 33
