-- The registers of the network chip, and what waits in its receive queue.
use Rattle.std.specs.Prelude.{ℕ, ◌+◌, ◌*◌, ◌/◌, ◌%◌, ◌^◌, ◌==◌, Bool, false, ◌&&◌, if◌then◌else◌, List, [], drop, length, slice_index}
use Rattle.lb_lan.specs.declared.registers.Register.{Register}
use Rattle.lb_lan.specs.declared.registers.Register.TheVariants.{RxData, RxStatus, ByteTest, HwCfg, RxFifoInf, MacCsrCmd, MacCsrData, Unused}

-- what the chip holds
pub record Chip : Type 0 where
  pub awake : Bool
  -- the statuses and the data words that wait, the oldest first
  pub statuses : List ℕ
  pub words : List ℕ
  -- what was last written to HW_CFG, MAC_CSR_CMD and MAC_CSR_DATA
  pub hw_cfg : ℕ
  pub mac_csr_cmd : ℕ
  pub mac_csr_data : ℕ
  -- the word behind the two MAC registers, whose bit 2 turns reception on
  pub mac_control : ℕ

-- a chip that was never awake
abbrev pub new_chip : Chip
new_chip =
    record { awake = false; statuses = []; words = []; hw_cfg = 0; mac_csr_cmd = 0; mac_csr_data = 0; mac_control = 0 }

-- the register at an address
abbrev pub register_at : ℕ → Register
register_at a =
    if a == 0x00 then RxData else
    if a == 0x40 then RxStatus else
    if a == 0x64 then ByteTest else
    if a == 0x74 then HwCfg else
    if a == 0x7C then RxFifoInf else
    if a == 0xA4 then MacCsrCmd else
    if a == 0xA8 then MacCsrData else Unused

-- ---- a chip that is awake

-- what a read of the register gives; of an empty queue it gives 0
abbrev pub register_value : Register → Chip → ℕ
register_value RxData c = slice_index c.words 0
register_value RxStatus c = slice_index c.statuses 0
register_value ByteTest c = 0x87654321
register_value HwCfg c = c.hw_cfg
-- the waiting statuses in bits 23 to 16, the bytes of waiting data in bits 15 to 0
register_value RxFifoInf c = 2 ^ 16 * length c.statuses + 4 * length c.words
register_value MacCsrCmd c = c.mac_csr_cmd
register_value MacCsrData c = c.mac_csr_data
register_value Unused c = 0

-- the chip after a read of the register
abbrev pub register_read : Register → Chip → Chip
register_read RxData c = record c { words = drop 1 c.words }
register_read RxStatus c = record c { statuses = drop 1 c.statuses }
-- bit 31 is cleared
register_read MacCsrCmd c = record c { mac_csr_cmd = c.mac_csr_cmd % 2 ^ 31 }
register_read ByteTest c = c
register_read HwCfg c = c
register_read RxFifoInf c = c
register_read MacCsrData c = c
register_read Unused c = c

-- a command that writes MAC control: bit 31 is set, bit 30 is clear, and bits 7 to 0 are 1
abbrev pub writes_mac_control : ℕ → Bool
writes_mac_control v = v / 2 ^ 31 % 2 == 1 && v / 2 ^ 30 % 2 == 0 && v % 2 ^ 8 == 1

-- the chip after a write of the register
abbrev pub register_written : Register → ℕ → Chip → Chip
register_written HwCfg v c = record c { hw_cfg = v }
register_written MacCsrCmd v c =
    record c { mac_csr_cmd = v; mac_control = if writes_mac_control v then c.mac_csr_data else c.mac_control }
register_written MacCsrData v c = record c { mac_csr_data = v }
register_written RxData v c = c
register_written RxStatus v c = c
register_written ByteTest v c = c
register_written RxFifoInf v c = c
register_written Unused v c = c

-- ---- any chip: one that isn't awake reads 0 everywhere without effect, and a write does nothing

abbrev pub value_at : ℕ → Chip → ℕ
value_at a c = if c.awake then register_value (register_at a) c else 0

abbrev pub after_read : ℕ → Chip → Chip
after_read a c = if c.awake then register_read (register_at a) c else c

abbrev pub after_write : ℕ → ℕ → Chip → Chip
after_write a v c = if c.awake then register_written (register_at a) v c else c
