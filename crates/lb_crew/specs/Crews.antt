-- What a crew makes of a machine.
use Rattle.std.specs.Prelude.{◌≡◌, ◌≤◌, ◌<◌, ◌^◌, ℕ, List, ◌++◌, All, IfOk, Result}
use Rattle.lb_trace.specs.declared.Entry.{Entry}
use Rattle.lb_machine.specs.Machines.{IsReplay, MachineContent}
use Rattle.lb_crew.specs.declared.racing.TheConstants.{MOST_WORKERS}
use Rattle.lb_crew.specs.Drawn.{HasEnded, IsDrawn}

-- so many workers went on from the old machine until it ended: its job and its most entries stay,
-- its log is legal, begins with the old one and replays to it; what was added is of workers below
-- the number, and what a single one adds is decided by the seed
pub record Finishes (seed workers : ℕ) (old new : MachineContent) : Type 0 where
  pub fixed : new.fixed ≡ old.fixed
  pub added : List Entry
  pub begins : new.log ≡ old.log ++ added
  pub workers_below : All (λ e. e.worker < workers) added
  pub ended : HasEnded new
  pub replay : IsReplay new
  pub drawn : workers ≡ 1 → IsDrawn seed old new

-- ---- crews as calls, of memory, a machine, workers and a seed

-- the call may be made with any memory and machine, 1 to MOST_WORKERS workers and any seed
abbrev pub MayCall : {A : Type 0} → (A → MachineContent → ℕ → ℕ → Type 0) → Type 0
MayCall {A} may = (alloc : A) (machine : MachineContent) (workers seed : ℕ)
    → 1 ≤ workers → workers ≤ MOST_WORKERS → seed < 2 ^ 32 → may alloc machine workers seed

-- it finishes the machine where it answers one
abbrev pub CallsFinish : {A E : Type 0}
    → (A → MachineContent → ℕ → ℕ → Result MachineContent E → Type 0) → Type 0
CallsFinish {A} {E} gives = (alloc : A) (machine : MachineContent) (workers seed : ℕ)
    (result : Result MachineContent E) → 1 ≤ workers → workers ≤ MOST_WORKERS → seed < 2 ^ 32
    → gives alloc machine workers seed result → IfOk result (Finishes seed workers machine)
