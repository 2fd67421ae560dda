-- What a core holds.
use Rattle.std.specs.Prelude.{ℕ, nat_lt, Bool, List, length, Option}
use Rattle.lb_rv.specs.declared.instr.Cause.{Cause}
use Rattle.lb_outcome.specs.declared.types.Outcome.{Outcome}
use Rattle.lb_outcome.specs.Cells.{cells}
use Rattle.lb_front.specs.declared.item.FetchItem.{FetchItem}
use Rattle.lb_front.specs.Prediction.{FrontContent}
use Rattle.lb_exec.specs.declared.item.DecodeItem.{DecodeItem}

-- the most items of each queue
abbrev pub capacity : ℕ
capacity = 2

-- a core: the code and the entry that it was booted with, where fetch is, the queues of what was fetched, decoded and executed, each from the
-- oldest item on, the registers, the bytes of RAM, how many instructions were retired, and the cause that halts it
pub record CoreState : Type 0 where
  pub code : List ℕ
  pub entry : ℕ
  pub front : FrontContent
  pub fetched : List FetchItem
  pub decoded : List DecodeItem
  pub outcomes : List Outcome
  pub registers : ℕ → ℕ
  pub ram : ℕ → ℕ
  pub retired : ℕ
  pub halted : Option Cause

-- a queue has room for one more item
abbrev pub has_room : {A : Type 0} → List A → Bool
has_room items = nat_lt (length items) capacity

-- what contracts see in a `Core`: the same, with the registers from x0 on and RAM from address 0 on as lists
pub record CoreContent : Type 0 where
  pub code : List ℕ
  pub entry : ℕ
  pub front : FrontContent
  pub fetched : List FetchItem
  pub decoded : List DecodeItem
  pub outcomes : List Outcome
  pub registers : List ℕ
  pub ram : List ℕ
  pub retired : ℕ
  pub halted : Option Cause

-- the core that it is
abbrev pub state_of : CoreContent → CoreState
state_of m = record {
  code = m.code;
  entry = m.entry;
  front = m.front;
  fetched = m.fetched;
  decoded = m.decoded;
  outcomes = m.outcomes;
  registers = cells m.registers;
  ram = cells m.ram;
  retired = m.retired;
  halted = m.halted;
}
