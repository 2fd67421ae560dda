-- The six rows of the core, one for each of its kinds of step: a guard, and an action on the core's whole state.
use Rattle.std.specs.Prelude.{ℕ, ◌+◌, ◌*◌, Bool, true, false, not, ◌&&◌, ◌||◌, ◌==◌, List, [], ◌∷◌, ◌++◌, length, is_none, Option, Some, None}
use Rattle.lb_trace.specs.declared.Event.{Event}
use Rattle.lb_trace.specs.declared.Event.TheVariants.{Ld, St}
use Rattle.lb_trace.specs.declared.Kind.{Kind}
use Rattle.lb_trace.specs.declared.Kind.TheVariants.{Fetch, Decode, Execute, Ram, Mmio, Writeback, Boot, Shift, Arrive}
use Rattle.lb_rv.specs.declared.instr.Cause.{Cause}
use Rattle.lb_rv.specs.Effects.{destination}
use Rattle.lb_outcome.specs.declared.types.Outcome.{Outcome}
use Rattle.lb_outcome.specs.declared.types.Outcome.TheVariants.{Plain, Load, Store, Halt}
use Rattle.lb_outcome.specs.declared.types.Executed.{Executed}
use Rattle.lb_outcome.specs.Fetching.{instruction_in, left_source, right_source}
use Rattle.lb_outcome.specs.Ram.{boot_ram, loaded, stored}
use Rattle.lb_outcome.specs.Registers.{boot_registers, with_register}
use Rattle.lb_front.specs.declared.item.FetchItem.{FetchItem}
use Rattle.lb_front.specs.Prediction.{advanced, booted_front, fetched_item, redirected}
use Rattle.lb_exec.specs.declared.item.DecodeItem.{DecodeItem}
use Rattle.lb_exec.specs.Execution.{execution}
use Rattle.lb_core.specs.declared.demand.Demand.{Demand}
use Rattle.lb_core.specs.declared.demand.Demand.TheVariants.{Read, Write}
use Rattle.lb_core.specs.Scoreboard.{pending, uses_none}
use Rattle.lb_core.specs.State.{CoreState, has_room}

-- a core at boot
abbrev pub booted_core : List ℕ → ℕ → CoreState
booted_core code entry = record {
  code = code;
  entry = entry;
  front = booted_front entry;
  fetched = [];
  decoded = [];
  outcomes = [];
  registers = boot_registers;
  ram = boot_ram code;
  retired = 0;
  halted = None;
}

-- two epochs are the same
abbrev pub same_epoch : Bool → Bool → Bool
same_epoch true e = e
same_epoch false e = not e

-- ---- guards

-- the oldest fetched item may be decoded: there is room, and it uses no pending register
abbrev pub can_decode : List FetchItem → CoreState → Bool
can_decode [] c = false
can_decode (it ∷ its) c = has_room c.decoded && uses_none (instruction_in it.word) (pending c)

-- the oldest decoded item may be executed: it is of the other epoch, or there is room
abbrev pub can_execute : List DecodeItem → CoreState → Bool
can_execute [] c = false
can_execute (d ∷ ds) c = not (same_epoch d.epoch c.front.epoch) || has_room c.outcomes

-- the oldest outcome is an access of RAM that isn't served
abbrev pub waits_for_ram : List Outcome → Bool
waits_for_ram (Load i a false None ∷ os) = true
waits_for_ram (Store i a v false false ∷ os) = true
waits_for_ram _ = false

-- the access of a device that the oldest outcome waits for
abbrev pub device_demand : List Outcome → Option Demand
device_demand (Load i a true None ∷ os) = Some (Read a)
device_demand (Store i a v true false ∷ os) = Some (Write a v)
device_demand _ = None

-- the oldest outcome is one, and no access that isn't served
abbrev pub can_end : List Outcome → Bool
can_end [] = false
can_end (Plain rd v ∷ os) = true
can_end (Load i a mmio None ∷ os) = false
can_end (Load i a mmio (Some v) ∷ os) = true
can_end (Store i a v mmio served ∷ os) = served
can_end (Halt cause ∷ os) = true

-- the guard of each row where the core isn't halted; the other kinds are the board's
abbrev pub guard : CoreState → Kind → Bool
guard c Fetch = has_room c.fetched
guard c Decode = can_decode c.fetched c
guard c Execute = can_execute c.decoded c
guard c Ram = waits_for_ram c.outcomes
guard c Mmio = not (is_none (device_demand c.outcomes))
guard c Writeback = can_end c.outcomes
guard c Boot = false
guard c Shift = false
guard c Arrive = false

-- a kind may be fired
abbrev pub is_enabled : CoreState → Kind → Bool
is_enabled c kind = is_none c.halted && guard c kind

-- the access of a device that waits, where the core isn't halted by this cause
abbrev pub unless_halted : Option Cause → Option Demand → Option Demand
unless_halted None demand = demand
unless_halted (Some cause) demand = None

-- the access of a device that waits: there is one exactly where Mmio is enabled
abbrev pub demanded : CoreState → Option Demand
demanded c = unless_halted c.halted (device_demand c.outcomes)

-- ---- actions

-- the item goes in, and fetch goes on at its prediction
abbrev pub after_fetch : CoreState → CoreState
after_fetch c = record c { fetched = c.fetched ++ fetched_item c.front c.code ∷ []; front = advanced c.front }

-- the item with its instruction and the values of the registers that it reads
abbrev pub decoded_item : FetchItem → (ℕ → ℕ) → DecodeItem
decoded_item it registers = record {
  pc = it.pc;
  word = it.word;
  predicted = it.predicted;
  epoch = it.epoch;
  instruction = instruction_in it.word;
  left = registers (left_source (instruction_in it.word));
  right = registers (right_source (instruction_in it.word));
}

-- the oldest fetched item is decoded
abbrev pub after_decode : List FetchItem → CoreState → CoreState
after_decode [] c = c
after_decode (it ∷ its) c = record c { fetched = its; decoded = c.decoded ++ decoded_item it c.registers ∷ [] }

-- the outcome is a halt
abbrev pub is_halt : Outcome → Bool
is_halt (Halt cause) = true
is_halt _ = false

-- the instruction doesn't halt, and is followed by another than was predicted
abbrev pub is_mispredicted : Executed → DecodeItem → Bool
is_mispredicted x d = not (is_halt x.outcome) && not (x.next == d.predicted)

-- where the prediction was wrong, fetch goes on at the right address in the other epoch, and the table keeps it
abbrev pub after_prediction : Bool → Executed → DecodeItem → CoreState → CoreState
after_prediction true x d c = record c { front = redirected c.front d.pc x.next }
after_prediction false x d c = c

-- an item of this epoch is executed, one of the other is dropped
abbrev pub after_item : Bool → Executed → DecodeItem → CoreState → CoreState
after_item true x d c = after_prediction (is_mispredicted x d) x d (record c { outcomes = c.outcomes ++ x.outcome ∷ [] })
after_item false x d c = c

-- the oldest decoded item is taken
abbrev pub after_execute : List DecodeItem → CoreState → CoreState
after_execute [] c = c
after_execute (d ∷ ds) c = after_item (same_epoch d.epoch c.front.epoch) (execution d (4 * length c.code)) d (record c { decoded = ds })

-- the oldest outcome's access is done in RAM
abbrev pub after_ram : List Outcome → CoreState → CoreState
after_ram (Load i a false None ∷ os) c = record c { outcomes = Load i a false (Some (loaded i a c.ram)) ∷ os }
after_ram (Store i a v false false ∷ os) c = record c { outcomes = Store i a v false true ∷ os; ram = stored i a v c.ram }
after_ram _ c = c

-- the oldest outcome's access is done at a device
abbrev pub after_device : List Outcome → ℕ → CoreState → CoreState
after_device (Load i a true None ∷ os) reply c = record c { outcomes = Load i a true (Some reply) ∷ os }
after_device (Store i a v true false ∷ os) reply c = record c { outcomes = Store i a v true true ∷ os }
after_device _ reply c = c

-- an access of a device as an event
abbrev pub event_of : Option Demand → ℕ → Option Event
event_of None reply = None
event_of (Some (Read a)) reply = Some (Ld a reply)
event_of (Some (Write a v)) reply = Some (St a v)

-- a halt is the core's; any other outcome is removed, its register written, and one more instruction is retired
abbrev pub after_end : List Outcome → CoreState → CoreState
after_end [] c = c
after_end (Plain rd v ∷ os) c = record c { outcomes = os; registers = with_register rd v c.registers; retired = c.retired + 1 }
after_end (Load i a mmio None ∷ os) c = c
after_end (Load i a mmio (Some v) ∷ os) c =
    record c { outcomes = os; registers = with_register (destination i) v c.registers; retired = c.retired + 1 }
after_end (Store i a v mmio false ∷ os) c = c
after_end (Store i a v mmio true ∷ os) c = record c { outcomes = os; retired = c.retired + 1 }
after_end (Halt cause ∷ os) c = record c { halted = Some cause }

-- the core after a kind is fired; the reply is that of a device that is read
abbrev pub fired : CoreState → Kind → ℕ → CoreState
fired c Fetch reply = after_fetch c
fired c Decode reply = after_decode c.fetched c
fired c Execute reply = after_execute c.decoded c
fired c Ram reply = after_ram c.outcomes c
fired c Mmio reply = after_device c.outcomes reply c
fired c Writeback reply = after_end c.outcomes c
fired c Boot reply = c
fired c Shift reply = c
fired c Arrive reply = c

-- the event of a kind that is fired
abbrev pub answered : CoreState → Kind → ℕ → Option Event
answered c Mmio reply = event_of (device_demand c.outcomes) reply
answered c _ reply = None

-- ---- the instructions that are done

-- the oldest outcome is an access that is served
abbrev pub is_front_served : List Outcome → Bool
is_front_served [] = false
is_front_served (Plain rd v ∷ os) = false
is_front_served (Load i a mmio None ∷ os) = false
is_front_served (Load i a mmio (Some v) ∷ os) = true
is_front_served (Store i a v mmio served ∷ os) = served
is_front_served (Halt cause ∷ os) = false

-- one more where it is
abbrev pub count_done : Bool → ℕ → ℕ
count_done true n = n + 1
count_done false n = n

-- how many instructions had their effect: those that were retired, and the one whose access is served
abbrev pub done_of : CoreState → ℕ
done_of c = count_done (is_front_served c.outcomes) c.retired
