-- What follows where a kind may be fired.
use Rattle.std.proofs.Common.{◌≡◌, true, is_none}
use Rattle.std.proofs.lemmas.Bool.{and_parts}
use Rattle.lb_trace.specs.declared.Kind.{Kind}
use Rattle.lb_trace.specs.declared.Kind.TheVariants.{Fetch, Decode, Execute, Ram, Mmio, Writeback, Boot, Shift, Arrive}
use Rattle.lb_core.specs.Rows.{guard}
use Rattle.lb_board.specs.Rows.{by_bytes}
use Rattle.lb_board.specs.Rows.{is_enabled as is_enabled_on_board}
use Rattle.lb_machine.specs.State.{MachineState}
use Rattle.lb_machine.specs.Rows.{is_enabled}

-- the core isn't halted
pub enabled_goes : (s : MachineState) (kind : Kind) → is_enabled by_bytes s kind ≡ true → is_none s.core.halted ≡ true
enabled_goes s Fetch on = (and_parts (is_none s.core.halted) (guard s.core Fetch) on).0
enabled_goes s Decode on = (and_parts (is_none s.core.halted) (guard s.core Decode) on).0
enabled_goes s Execute on = (and_parts (is_none s.core.halted) (guard s.core Execute) on).0
enabled_goes s Ram on = (and_parts (is_none s.core.halted) (guard s.core Ram) on).0
enabled_goes s Mmio on = (and_parts (is_none s.core.halted) (guard s.core Mmio) on).0
enabled_goes s Writeback on = (and_parts (is_none s.core.halted) (guard s.core Writeback) on).0
enabled_goes s Boot on = (and_parts (is_none s.core.halted) (is_enabled_on_board by_bytes Boot s.board) on).0
enabled_goes s Shift on = (and_parts (is_none s.core.halted) (is_enabled_on_board by_bytes Shift s.board) on).0
enabled_goes s Arrive on = (and_parts (is_none s.core.halted) (is_enabled_on_board by_bytes Arrive s.board) on).0
