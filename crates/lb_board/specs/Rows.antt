-- What writes and the board's own actions do, whatever tells the network chip.
use Rattle.std.specs.Prelude.{ℕ, ◌+◌, ◌%◌, ◌^◌, ◌==◌, nat_lt, Bool, false, not, ◌&&◌, if◌then◌else◌, [], ◌∷◌, ◌++◌, length, drop, slice_index, Option, Some, None, slice_get}
use Rattle.lb_trace.specs.declared.Kind.{Kind}
use Rattle.lb_trace.specs.declared.Kind.TheVariants.{Fetch, Decode, Execute, Ram, Mmio, Writeback, Boot, Shift, Arrive}
use Rattle.lb_trace.specs.Frame.{FrameContent}
use Rattle.lb_lan.specs.Registers.{Chip}
use Rattle.lb_lan.specs.Frames.{woken, arrived, has_room}
use Rattle.lb_lan.specs.Transaction.{LanState, exchanged, answer_to, released, with_chip}
use Rattle.lb_lan.specs.Phases.{LanView, view_exchanged, view_answer, view_released, view_with_chip}
use Rattle.lb_board.specs.declared.registers.Register.{Register}
use Rattle.lb_board.specs.declared.registers.Register.TheVariants.{OutputEn, OutputVal, IofEn, CsMode, TxData, RxData, Unused}
use Rattle.lb_board.specs.Registers.{BoardOf, pushed, fifo_size}

-- what the bus does with a chip that is told by a value of type L
pub record ChipRows (L : Type 0) : Type 0 where
  -- what the chip holds, and the same transaction with another chip
  pub chip : L → Chip
  pub with_chip : Chip → L → L
  -- after one more byte, and the answer to it
  pub exchanged : ℕ → L → L
  pub answer : ℕ → L → ℕ
  -- after the transaction ended
  pub released : L → L

-- a chip that is told by the bytes of its transaction
abbrev pub by_bytes : ChipRows LanState
by_bytes = record { chip = λ l. l.chip; with_chip = with_chip; exchanged = exchanged; answer = answer_to; released = released }

-- a chip that is told by the phase of its transaction
abbrev pub by_phase : ChipRows LanView
by_phase = record {
  chip = λ l. l.chip;
  with_chip = view_with_chip;
  exchanged = view_exchanged;
  answer = λ b l. view_answer l;
  released = view_released;
}

-- ---- writes

-- the chip while the bus is in this mode: in any mode but 2 its transaction ends
abbrev pub selected : {L : Type 0} → ChipRows L → ℕ → L → L
selected rows mode l = if mode == 2 then l else rows.released l

-- the board after a write of the register
abbrev pub written_in : {L : Type 0} → ChipRows L → Register → ℕ → BoardOf L → BoardOf L
written_in rows OutputEn v s = record s { output_en = v }
written_in rows OutputVal v s = record s { output_val = v }
written_in rows IofEn v s = record s { iof_en = v }
written_in rows CsMode v s = record s { csmode = v % 4; lan = selected rows (v % 4) s.lan }
written_in rows TxData v s = record s { send_fifo = pushed (v % 2 ^ 8) s.send_fifo }
written_in rows RxData v s = s
written_in rows Unused v s = s

-- ---- the board's own actions

-- the frame, if one is left, has room
abbrev pub can_arrive : {L : Type 0} → ChipRows L → Option FrameContent → L → Bool
can_arrive rows None l = false
can_arrive rows (Some f) l = has_room f (rows.chip l)

-- whether the action may be done; the processor's are none of the board's
abbrev pub is_enabled : {L : Type 0} → ChipRows L → Kind → BoardOf L → Bool
is_enabled rows Boot s = not (rows.chip s.lan).awake
is_enabled rows Shift s = nat_lt 0 (length s.send_fifo) && nat_lt (length s.receive_fifo) fifo_size
is_enabled rows Arrive s = can_arrive rows (slice_get s.frames s.arrived) s.lan
is_enabled rows Fetch s = false
is_enabled rows Decode s = false
is_enabled rows Execute s = false
is_enabled rows Ram s = false
is_enabled rows Mmio s = false
is_enabled rows Writeback s = false

-- the byte that comes back for a byte that goes out: the chip's answer in mode 2, else 0xFF
abbrev pub byte_back : {L : Type 0} → ChipRows L → ℕ → ℕ → L → ℕ
byte_back rows mode b l = if mode == 2 then rows.answer b l else 0xFF

-- the chip after a byte went out: it gets the byte in mode 2 alone
abbrev pub byte_out : {L : Type 0} → ChipRows L → ℕ → ℕ → L → L
byte_out rows mode b l = if mode == 2 then rows.exchanged b l else l

-- the byte that a shift puts into the receive FIFO
abbrev pub shifted_in : {L : Type 0} → ChipRows L → BoardOf L → ℕ
shifted_in rows s = byte_back rows s.csmode (slice_index s.send_fifo 0) s.lan

-- the chip after the frame arrived, if there is one
abbrev pub with_frame : {L : Type 0} → ChipRows L → Option FrameContent → L → L
with_frame rows None l = l
with_frame rows (Some f) l = rows.with_chip (arrived f (rows.chip l)) l

-- the board after the action
abbrev pub acted : {L : Type 0} → ChipRows L → Kind → BoardOf L → BoardOf L
acted rows Boot s = record s { lan = rows.with_chip (woken (rows.chip s.lan)) s.lan }
acted rows Shift s = record s {
  send_fifo = drop 1 s.send_fifo;
  receive_fifo = s.receive_fifo ++ shifted_in rows s ∷ [];
  lan = byte_out rows s.csmode (slice_index s.send_fifo 0) s.lan;
}
acted rows Arrive s = record s { lan = with_frame rows (slice_get s.frames s.arrived) s.lan; arrived = s.arrived + 1 }
acted rows Fetch s = s
acted rows Decode s = s
acted rows Execute s = s
acted rows Ram s = s
acted rows Mmio s = s
acted rows Writeback s = s
