-- What the rows say of the chip's phase is what they say of its bytes.
use Rattle.std.proofs.Common.{◌≡◌, ℕ, Bool, ◌&&◌, is_none, Option, Some, None, refl, ap, ◌∙◌}
use Rattle.lb_trace.specs.declared.Kind.{Kind}
use Rattle.lb_trace.specs.declared.Kind.TheVariants.{Fetch, Decode, Execute, Ram, Mmio, Writeback, Boot, Shift, Arrive}
use Rattle.lb_core.specs.declared.demand.Demand.{Demand}
use Rattle.lb_core.specs.declared.demand.Demand.TheVariants.{Read, Write}
use Rattle.lb_core.specs.Rows.{demanded}
use Rattle.lb_board.specs.Registers.{register_at}
use Rattle.lb_board.specs.Rows.{by_bytes, by_phase}
use Rattle.lb_board.specs.Steps.{BoardState, BoardView, Reads, Writes}
use Rattle.lb_board.specs.Steps.{view_of as board_view_of}
use Rattle.lb_board.proofs.RowLemmas.{acted-view_of, stepped-view_of, value_in-view_of}
use Rattle.lb_board.proofs.RowLemmas.{is_enabled-view_of as board_enabled-view_of}
use Rattle.lb_machine.specs.State.{MachineState, view_of}
use Rattle.lb_machine.specs.Rows.{accessed, after, core_fired, device_accessed, is_enabled, reply_to}

pub is_enabled-view_of : (s : MachineState) (k : Kind) → is_enabled by_phase (view_of s) k ≡ is_enabled by_bytes s k
is_enabled-view_of s Fetch = refl
is_enabled-view_of s Decode = refl
is_enabled-view_of s Execute = refl
is_enabled-view_of s Ram = refl
is_enabled-view_of s Mmio = refl
is_enabled-view_of s Writeback = refl
is_enabled-view_of s Boot = ap (λ (b : Bool). is_none s.core.halted && b) (board_enabled-view_of Boot s.board)
is_enabled-view_of s Shift = ap (λ (b : Bool). is_none s.core.halted && b) (board_enabled-view_of Shift s.board)
is_enabled-view_of s Arrive = ap (λ (b : Bool). is_none s.core.halted && b) (board_enabled-view_of Arrive s.board)

reply_to-view_of : (d : Option Demand) (b : BoardState) → reply_to d (board_view_of b) ≡ reply_to d b
reply_to-view_of (Some (Read addr)) b = value_in-view_of (register_at addr) b
reply_to-view_of (Some (Write addr value)) b = refl
reply_to-view_of None b = refl

accessed-view_of : (d : Option Demand) (b : BoardState) → accessed by_phase d (board_view_of b) ≡ board_view_of (accessed by_bytes d b)
accessed-view_of (Some (Read addr)) b = stepped-view_of (Reads addr) b
accessed-view_of (Some (Write addr value)) b = stepped-view_of (Writes addr value) b
accessed-view_of None b = refl

device_accessed-view_of : (d : Option Demand) (s : MachineState)
    → device_accessed by_phase d (view_of s) ≡ view_of (device_accessed by_bytes d s)
device_accessed-view_of d s =
    ap (λ (r : ℕ). record (core_fired Mmio r (view_of s)) { board = accessed by_phase d (board_view_of s.board) }) (reply_to-view_of d s.board)
    ∙ ap (λ (b : BoardView). record (core_fired Mmio (reply_to d s.board) (view_of s)) { board = b }) (accessed-view_of d s.board)

pub after-view_of : (s : MachineState) (k : Kind) → after by_phase (view_of s) k ≡ view_of (after by_bytes s k)
after-view_of s Fetch = refl
after-view_of s Decode = refl
after-view_of s Execute = refl
after-view_of s Ram = refl
after-view_of s Mmio = device_accessed-view_of (demanded s.core) s
after-view_of s Writeback = refl
after-view_of s Boot = ap (λ (b : BoardView). record (view_of s) { board = b }) (acted-view_of Boot s.board)
after-view_of s Shift = ap (λ (b : BoardView). record (view_of s) { board = b }) (acted-view_of Shift s.board)
after-view_of s Arrive = ap (λ (b : BoardView). record (view_of s) { board = b }) (acted-view_of Arrive s.board)
