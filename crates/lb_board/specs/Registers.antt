-- What a board holds, and what its registers are.
use Rattle.std.specs.Prelude.{ℕ, ◌/◌, ◌%◌, ◌^◌, ◌==◌, nat_lt, Bool, if◌then◌else◌, List, [], ◌∷◌, ◌++◌, length, drop}
use Rattle.lb_trace.specs.Frame.{FrameContent}
use Rattle.lb_lan.specs.Queue.{front_or}
use Rattle.lb_board.specs.declared.registers.Register.{Register}
use Rattle.lb_board.specs.declared.registers.Register.TheVariants.{OutputEn, OutputVal, IofEn, CsMode, TxData, RxData, Unused}

-- what a board holds, the network chip being told by a value of type L
pub record BoardOf (L : Type 0) : Type 0 where
  -- what was last written to the registers of the pins
  pub output_en : ℕ
  pub output_val : ℕ
  pub iof_en : ℕ
  -- the serial bus: its mode, and the bytes that wait to be sent and to be read, the oldest first
  pub csmode : ℕ
  pub send_fifo : List ℕ
  pub receive_fifo : List ℕ
  pub lan : L
  -- all frames of the script, and how many of them have arrived
  pub frames : List FrameContent
  pub arrived : ℕ

-- the register at an address
abbrev pub register_at : ℕ → Register
register_at a =
    if a == 0x10012008 then OutputEn else
    if a == 0x1001200C then OutputVal else
    if a == 0x10012038 then IofEn else
    if a == 0x10024018 then CsMode else
    if a == 0x10024048 then TxData else
    if a == 0x1002404C then RxData else Unused

-- how many bytes each FIFO of the bus holds
abbrev pub fifo_size : ℕ
fifo_size = 8

-- what a read of the register gives
abbrev pub value_in : {L : Type 0} → Register → BoardOf L → ℕ
value_in OutputEn s = s.output_en
value_in OutputVal s = s.output_val
value_in IofEn s = s.iof_en
value_in CsMode s = s.csmode
-- bit 31: the send FIFO is full
value_in TxData s = if nat_lt (length s.send_fifo) fifo_size then 0 else 2 ^ 31
-- the first byte, or bit 31: the receive FIFO is empty
value_in RxData s = front_or (2 ^ 31) s.receive_fifo
value_in Unused s = 0

-- the board after a read of the register: the byte that rxdata gave is removed
abbrev pub read_in : {L : Type 0} → Register → BoardOf L → BoardOf L
read_in RxData s = record s { receive_fifo = drop 1 s.receive_fifo }
read_in OutputEn s = s
read_in OutputVal s = s
read_in IofEn s = s
read_in CsMode s = s
read_in TxData s = s
read_in Unused s = s

-- the FIFO with a byte more, where it has room
abbrev pub pushed : ℕ → List ℕ → List ℕ
pushed b fifo = if nat_lt (length fifo) fifo_size then fifo ++ b ∷ [] else fifo

-- the lamp is on: bit 23 of output_val
abbrev pub is_lit : ℕ → Bool
is_lit output_val = output_val / 2 ^ 23 % 2 == 1
