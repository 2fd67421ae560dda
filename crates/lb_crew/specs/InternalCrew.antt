-- For private contracts alone: what the workers of a crew leave.
use Rattle.std.specs.Prelude.{◌≡◌, ◌<◌, ℕ, List, length, slice_index_or, Contains}
use Rattle.lb_trace.specs.declared.Kind.{Kind}
use Rattle.lb_turn.specs.Seats.{IsSameSeat, SeatView}
use Rattle.lb_machine.specs.declared.fault.NotFired.{NotFired}
use Rattle.lb_machine.specs.declared.fault.NotFired.TheVariants.{Halted, Full, GuardFalse}

-- the reason is that the machine has ended
abbrev pub IsEnd : NotFired → Type 0
IsEnd (Halted cause) = Unit {0}
IsEnd Full = Unit {0}
IsEnd GuardFalse = ⊥

-- the seat was told that the machine has ended
pub record SawEnd (s : SeatView NotFired) : Type 0 where
  pub seen : ℕ
  pub kind : Kind
  pub why : NotFired
  pub is_end : IsEnd why
  pub told : Contains s.history.refusals (seen, kind, why)

-- the same seat, at the end of a worker's work
abbrev pub HasWorked : SeatView NotFired → SeatView NotFired → Type 0
HasWorked s s' = IsSameSeat s s' × SawEnd s'

-- each of these seats, at the end of its worker's work
pub record AllHaveWorked (before after : List (SeatView NotFired)) : Type 0 where
  pub as_many : length after ≡ length before
  pub each : (n : ℕ) (d : SeatView NotFired) → n < length before
      → HasWorked (slice_index_or before n d) (slice_index_or after n d)
