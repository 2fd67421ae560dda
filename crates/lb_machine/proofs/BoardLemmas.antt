-- What an access and an action leave of a board, and what an action raises.
use Rattle.std.proofs.Common.{◌≡◌, ◌≤◌, ◌<◌, ℕ, ◌+◌, ◌%◌, ◌^◌, ◌==◌, Bool, true, false, if◌then◌else◌, List, [], ◌∷◌, ◌++◌, drop, length, slice_get, slice_index, Option, Some, None, refl, ap, arith}
use Rattle.std.specs.Prelude.{nat_lt}
use Rattle.std.proofs.lemmas.Bool.{and_parts, ltb-true}
use Rattle.std.proofs.lemmas.Option.{slice_get_within}
use Rattle.lb_trace.specs.declared.Kind.TheVariants.{Boot, Shift, Arrive}
use Rattle.lb_trace.specs.Frame.{FrameContent}
use Rattle.lb_core.specs.declared.demand.Demand.{Demand}
use Rattle.lb_core.specs.declared.demand.Demand.TheVariants.{Read, Write}
use Rattle.lb_core.specs.Potential.{one_if}
use Rattle.lb_core.proofs.Tools.{not_true}
use Rattle.lb_lan.specs.declared.registers.Register.{Register as ChipRegister}
use Rattle.lb_lan.specs.declared.registers.Register.TheVariants.{RxData as ChipRxData, RxStatus, ByteTest, HwCfg, RxFifoInf, MacCsrCmd, MacCsrData, Unused as ChipUnused}
use Rattle.lb_lan.specs.Registers.{Chip, register_read, register_written}
use Rattle.lb_lan.specs.Registers.{register_at as chip_register_at}
use Rattle.lb_lan.specs.Transaction.{Access, ReadAt, WriteAt, NoAccess, LanState, after_access, next_access}
use Rattle.lb_board.specs.declared.registers.Register.{Register}
use Rattle.lb_board.specs.declared.registers.Register.TheVariants.{OutputEn, OutputVal, IofEn, CsMode, TxData, RxData, Unused}
use Rattle.lb_board.specs.Registers.{fifo_size, read_in, register_at}
use Rattle.lb_board.specs.Rows.{acted, by_bytes, can_arrive, is_enabled, with_frame, written_in}
use Rattle.lb_board.specs.Steps.{BoardState}
use Rattle.lb_machine.proofs.CoreLemmas.{length_snoc}
use Rattle.lb_machine.specs.Rows.{accessed}

-- the script and the frames that arrived are the same, the chip is as awake, and so many bytes more wait to be sent
pub record Leaves (b d : BoardState) (more : ℕ) : Type 0 where
  pub frames : d.frames ≡ b.frames
  pub arrived : d.arrived ≡ b.arrived
  pub awake : d.lan.chip.awake ≡ b.lan.chip.awake
  pub send : length d.send_fifo ≤ length b.send_fifo + more

-- ---- accesses

read_leaves : (r : Register) (b : BoardState) → Leaves b (read_in r b) 1
read_leaves OutputEn b = record { frames = refl; arrived = refl; awake = refl; send = omega arith }
read_leaves OutputVal b = record { frames = refl; arrived = refl; awake = refl; send = omega arith }
read_leaves IofEn b = record { frames = refl; arrived = refl; awake = refl; send = omega arith }
read_leaves CsMode b = record { frames = refl; arrived = refl; awake = refl; send = omega arith }
read_leaves TxData b = record { frames = refl; arrived = refl; awake = refl; send = omega arith }
read_leaves RxData b = record { frames = refl; arrived = refl; awake = refl; send = omega arith }
read_leaves Unused b = record { frames = refl; arrived = refl; awake = refl; send = omega arith }

selected_awake : (t : Bool) (l : LanState) → (if t then l else by_bytes.released l).chip.awake ≡ l.chip.awake
selected_awake true l = refl
selected_awake false l = refl

length_pushed : (t : Bool) (x : ℕ) (fifo : List ℕ) → length (if t then fifo ++ x ∷ [] else fifo) ≤ length fifo + 1
length_pushed true x fifo = let l = length_snoc fifo x in omega (arith, l)
length_pushed false x fifo = omega arith

write_leaves : (r : Register) (v : ℕ) (b : BoardState) → Leaves b (written_in by_bytes r v b) 1
write_leaves OutputEn v b = record { frames = refl; arrived = refl; awake = refl; send = omega arith }
write_leaves OutputVal v b = record { frames = refl; arrived = refl; awake = refl; send = omega arith }
write_leaves IofEn v b = record { frames = refl; arrived = refl; awake = refl; send = omega arith }
write_leaves CsMode v b = record { frames = refl; arrived = refl; awake = selected_awake (v % 4 == 2) b.lan; send = omega arith }
write_leaves TxData v b =
    record { frames = refl; arrived = refl; awake = refl; send = length_pushed (nat_lt (length b.send_fifo) fifo_size) (v % 2 ^ 8) b.send_fifo }
write_leaves RxData v b = record { frames = refl; arrived = refl; awake = refl; send = omega arith }
write_leaves Unused v b = record { frames = refl; arrived = refl; awake = refl; send = omega arith }

pub access_leaves : (d : Option Demand) (b : BoardState) → Leaves b (accessed by_bytes d b) 1
access_leaves (Some (Read addr)) b = read_leaves (register_at addr) b
access_leaves (Some (Write addr value)) b = write_leaves (register_at addr) value b
access_leaves None b = record { frames = refl; arrived = refl; awake = refl; send = omega arith }

-- ---- actions

-- the script is the same, no more frames arrive than it has, and with a byte less to be sent, a chip that awoke or a
-- frame that arrived there is one thing less to be done
pub record Acts (b d : BoardState) : Type 0 where
  pub frames : d.frames ≡ b.frames
  pub arrived : b.arrived ≤ length b.frames → d.arrived ≤ length d.frames
  pub rises : 1 + length d.send_fifo + one_if b.lan.chip.awake + b.arrived ≤ length b.send_fifo + one_if d.lan.chip.awake + d.arrived

pub boot_acts : (b : BoardState) → is_enabled by_bytes Boot b ≡ true → Acts b (acted by_bytes Boot b)
boot_acts b on =
    let z = ap one_if (not_true b.lan.chip.awake on) in record { frames = refl; arrived = λ h. h; rises = omega (arith, z) }

register_read_awake : (r : ChipRegister) (c : Chip) → (register_read r c).awake ≡ c.awake
register_read_awake ChipRxData c = refl
register_read_awake RxStatus c = refl
register_read_awake ByteTest c = refl
register_read_awake HwCfg c = refl
register_read_awake RxFifoInf c = refl
register_read_awake MacCsrCmd c = refl
register_read_awake MacCsrData c = refl
register_read_awake ChipUnused c = refl

register_written_awake : (r : ChipRegister) (v : ℕ) (c : Chip) → (register_written r v c).awake ≡ c.awake
register_written_awake ChipRxData v c = refl
register_written_awake RxStatus v c = refl
register_written_awake ByteTest v c = refl
register_written_awake HwCfg v c = refl
register_written_awake RxFifoInf v c = refl
register_written_awake MacCsrCmd v c = refl
register_written_awake MacCsrData v c = refl
register_written_awake ChipUnused v c = refl

by_test : (t : Bool) (c d : Chip) → d.awake ≡ c.awake → (if t then d else c).awake ≡ c.awake
by_test true c d h = h
by_test false c d h = refl

access_awake : (a : Access) (c : Chip) → (after_access a c).awake ≡ c.awake
access_awake (ReadAt a) c = by_test c.awake c (register_read (chip_register_at a) c) (register_read_awake (chip_register_at a) c)
access_awake (WriteAt a v) c =
    by_test c.awake c (register_written (chip_register_at a) v c) (register_written_awake (chip_register_at a) v c)
access_awake NoAccess c = refl

byte_out_awake : (t : Bool) (x : ℕ) (l : LanState) → (if t then by_bytes.exchanged x l else l).chip.awake ≡ l.chip.awake
byte_out_awake true x l = access_awake (next_access x l) l.chip
byte_out_awake false x l = refl

length_drop_one : (l : List ℕ) → 0 < length l → length (drop 1 l) + 1 ≡ length l
length_drop_one [] h = omega (arith, h)
length_drop_one (x ∷ xs) h = omega arith

pub shift_acts : (b : BoardState) → is_enabled by_bytes Shift b ≡ true → Acts b (acted by_bytes Shift b)
shift_acts b on =
    let some = ltb-true 0 (length b.send_fifo) (and_parts (nat_lt 0 (length b.send_fifo)) (nat_lt (length b.receive_fifo) fifo_size) on).0 in
    let l = length_drop_one b.send_fifo some in
    let w = ap one_if (byte_out_awake (b.csmode == 2) (slice_index b.send_fifo 0) b.lan) in
    record { frames = refl; arrived = λ h. h; rises = omega (arith, l, w) }

with_frame_awake : (f : Option FrameContent) (l : LanState) → (with_frame by_bytes f l).chip.awake ≡ l.chip.awake
with_frame_awake None l = refl
with_frame_awake (Some f) l = refl

one_is_left : (f : Option FrameContent) (frames : List FrameContent) (n : ℕ) (l : LanState)
    → slice_get frames n ≡ f → can_arrive by_bytes f l ≡ true → n < length frames
one_is_left None frames n l e on = absurd (cc on)
one_is_left (Some f) frames n l e on = slice_get_within frames n f e

pub arrive_acts : (b : BoardState) → is_enabled by_bytes Arrive b ≡ true → Acts b (acted by_bytes Arrive b)
arrive_acts b on =
    let left = one_is_left (slice_get b.frames b.arrived) b.frames b.arrived b.lan refl on in
    let w = ap one_if (with_frame_awake (slice_get b.frames b.arrived) b.lan) in
    record { frames = refl; arrived = λ h. omega (arith, left); rises = omega (arith, w) }
