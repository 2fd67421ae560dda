-- What bounds the number of steps by the number of instructions that are done.
use Rattle.std.specs.Prelude.{◌≤◌, ℕ, ◌+◌, ◌*◌, Bool, true, false, List, [], ◌∷◌, length, Option, Some, None}
use Rattle.lb_trace.specs.declared.Kind.{Kind}
use Rattle.lb_trace.specs.declared.Kind.TheVariants.{Mmio}
use Rattle.lb_rv.specs.declared.instr.Cause.{Cause}
use Rattle.lb_front.specs.declared.item.FetchItem.{FetchItem}
use Rattle.lb_core.specs.Rows.{is_front_served, same_epoch}
use Rattle.lb_core.specs.Stands.{waiting}
use Rattle.lb_core.specs.State.{CoreState, capacity}

abbrev pub one_if : Bool → ℕ
one_if true = 1
one_if false = 0

abbrev pub one_if_some : Option Cause → ℕ
one_if_some None = 0
one_if_some (Some cause) = 1

-- how many items are of the epoch
abbrev pub current_items : Bool → List FetchItem → ℕ
current_items e [] = 0
current_items e (it ∷ its) = one_if (same_epoch it.epoch e) + current_items e its

-- The potential is the credit less the debt: what each step raises. A redirect turns items of this epoch into such of the other, which cost one
-- step more each to be dropped; the outcome's weight pays for it.
abbrev pub credit : CoreState → ℕ
credit c =
    15 * c.retired + 12 * length c.outcomes + 3 * current_items c.front.epoch (waiting c) + 2 * one_if (is_front_served c.outcomes)
    + one_if_some c.halted

abbrev pub debt : CoreState → ℕ
debt c = 2 * length c.fetched + length c.decoded

-- no queue holds more than its capacity
pub record Fits (c : CoreState) : Type 0 where
  pub fetched : length c.fetched ≤ capacity
  pub decoded : length c.decoded ≤ capacity
  pub outcomes : length c.outcomes ≤ capacity

-- how much a step raises the potential at the least: an access of a device by two, since it may give the board one step more to do
abbrev pub rise : Kind → ℕ
rise Mmio = 2
rise _ = 1
