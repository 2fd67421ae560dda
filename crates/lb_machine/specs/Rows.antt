-- The nine rows of a machine, one for each kind of step: a guard, and an action on the whole state.
use Rattle.std.specs.Prelude.{ℕ, Bool, ◌&&◌, is_none, Option, Some, None}
use Rattle.lb_trace.specs.declared.Kind.{Kind}
use Rattle.lb_trace.specs.declared.Kind.TheVariants.{Fetch, Decode, Execute, Ram, Mmio, Writeback, Boot, Shift, Arrive}
use Rattle.lb_core.specs.declared.demand.Demand.{Demand}
use Rattle.lb_core.specs.declared.demand.Demand.TheVariants.{Read, Write}
use Rattle.lb_core.specs.Rows.{answered, demanded, fired}
use Rattle.lb_core.specs.Rows.{is_enabled as is_enabled_in_core}
use Rattle.lb_core.specs.Stands.{with_event}
use Rattle.lb_board.specs.Registers.{BoardOf, register_at, value_in}
use Rattle.lb_board.specs.Rows.{ChipRows, acted}
use Rattle.lb_board.specs.Rows.{is_enabled as is_enabled_on_board}
use Rattle.lb_board.specs.Steps.{Reads, Writes, stepped}
use Rattle.lb_machine.specs.State.{MachineOf}

-- ---- an access of a device

-- what the board answers to it; only a read has an answer that counts
abbrev pub reply_to : {L : Type 0} → Option Demand → BoardOf L → ℕ
reply_to (Some (Read addr)) b = value_in (register_at addr) b
reply_to (Some (Write addr value)) b = 0
reply_to None b = 0

-- the board behind it
abbrev pub accessed : {L : Type 0} → ChipRows L → Option Demand → BoardOf L → BoardOf L
accessed rows (Some (Read addr)) b = stepped rows (Reads addr) b
accessed rows (Some (Write addr value)) b = stepped rows (Writes addr value) b
accessed rows None b = b

-- ---- guards

-- a kind may be fired: the core isn't halted, and the guard of the kind's row holds
abbrev pub is_enabled : {L : Type 0} → ChipRows L → MachineOf L → Kind → Bool
is_enabled rows s Fetch = is_enabled_in_core s.core Fetch
is_enabled rows s Decode = is_enabled_in_core s.core Decode
is_enabled rows s Execute = is_enabled_in_core s.core Execute
is_enabled rows s Ram = is_enabled_in_core s.core Ram
is_enabled rows s Mmio = is_enabled_in_core s.core Mmio
is_enabled rows s Writeback = is_enabled_in_core s.core Writeback
is_enabled rows s Boot = is_none s.core.halted && is_enabled_on_board rows Boot s.board
is_enabled rows s Shift = is_none s.core.halted && is_enabled_on_board rows Shift s.board
is_enabled rows s Arrive = is_none s.core.halted && is_enabled_on_board rows Arrive s.board

-- ---- actions

-- the core's row of a kind, with the reply; an access of a device joins the trace
abbrev pub core_fired : {L : Type 0} → Kind → ℕ → MachineOf L → MachineOf L
core_fired kind reply s =
    record s {
      core = fired s.core kind reply;
      trace = with_event s.trace (answered s.core kind reply);
    }

-- the core's access is done by the board, which answers it
abbrev pub device_accessed : {L : Type 0} → ChipRows L → Option Demand → MachineOf L → MachineOf L
device_accessed rows demand s =
    record (core_fired Mmio (reply_to demand s.board) s) { board = accessed rows demand s.board }

-- the machine after a kind is fired
abbrev pub after : {L : Type 0} → ChipRows L → MachineOf L → Kind → MachineOf L
after rows s Fetch = core_fired Fetch 0 s
after rows s Decode = core_fired Decode 0 s
after rows s Execute = core_fired Execute 0 s
after rows s Ram = core_fired Ram 0 s
after rows s Mmio = device_accessed rows (demanded s.core) s
after rows s Writeback = core_fired Writeback 0 s
after rows s Boot = record s { board = acted rows Boot s.board }
after rows s Shift = record s { board = acted rows Shift s.board }
after rows s Arrive = record s { board = acted rows Arrive s.board }
