-- A transaction of the serial bus, told from all bytes that the chip got since the last one ended.
use Rattle.std.specs.Prelude.{ℕ, ◌+◌, ◌*◌, ◌==◌, if◌then◌else◌, List, [], ◌∷◌, ◌++◌, slice_index}
use Rattle.lb_word.specs.Bytes.{word_of_bytes, bytes_of_word}
use Rattle.lb_lan.specs.Registers.{Chip, new_chip, value_at, after_read, after_write}

-- what the first byte asks for
pub data Instruction : Type 0 where
  Reads : Instruction
  Writes : Instruction
  Ignored : Instruction

abbrev pub instruction : ℕ → Instruction
instruction b = if b == 0x0B then Reads else if b == 0x02 then Writes else Ignored

-- the address of the two bytes behind it
abbrev pub address_of : ℕ → ℕ → ℕ
address_of high low = 256 * high + low

-- ---- what the last byte does

pub data Access : Type 0 where
  ReadAt : ℕ → Access
  WriteAt : ℕ → ℕ → Access
  NoAccess : Access

-- the same by the instruction and the bytes behind its own: a register is read at the fifth byte of all,
-- behind the address and a dummy, and written at the seventh, behind the address and the value's first three
abbrev pub access_in : Instruction → List ℕ → Access
access_in Reads (high ∷ low ∷ dummy ∷ b ∷ []) = ReadAt (address_of high low)
access_in Writes (high ∷ low ∷ p ∷ q ∷ r ∷ s ∷ []) = WriteAt (address_of high low) (word_of_bytes (p ∷ q ∷ r ∷ s ∷ []))
access_in i bytes = NoAccess

abbrev pub access_of : List ℕ → Access
access_of [] = NoAccess
access_of (b ∷ bytes) = access_in (instruction b) bytes

-- the chip after an access
abbrev pub after_access : Access → Chip → Chip
after_access (ReadAt a) c = after_read a c
after_access (WriteAt a v) c = after_write a v c
after_access NoAccess c = c

-- the value that is kept after an access of this chip: what was read, until the next read
abbrev pub kept_after : Access → Chip → ℕ → ℕ
kept_after (ReadAt a) c kept = value_at a c
kept_after (WriteAt a v) c kept = kept
kept_after NoAccess c kept = kept

-- ---- the answer to the last byte

-- the fifth byte of a read and the three behind it are answered by the bytes of the value that is kept, the least
-- significant first; every other byte by 0xFF
abbrev pub answer_in : Instruction → List ℕ → ℕ → ℕ
answer_in Reads (high ∷ low ∷ dummy ∷ b ∷ []) kept = slice_index (bytes_of_word kept) 0
answer_in Reads (high ∷ low ∷ dummy ∷ b ∷ c ∷ []) kept = slice_index (bytes_of_word kept) 1
answer_in Reads (high ∷ low ∷ dummy ∷ b ∷ c ∷ d ∷ []) kept = slice_index (bytes_of_word kept) 2
answer_in Reads (high ∷ low ∷ dummy ∷ b ∷ c ∷ d ∷ e ∷ []) kept = slice_index (bytes_of_word kept) 3
answer_in i bytes kept = 0xFF

abbrev pub answer_of : List ℕ → ℕ → ℕ
answer_of [] kept = 0xFF
answer_of (b ∷ bytes) kept = answer_in (instruction b) bytes kept

-- ---- the chip on the bus

-- what a `Lan` stands for: what the chip holds, the bytes since the last transaction ended, and the value kept
pub record LanState : Type 0 where
  pub chip : Chip
  pub bytes : List ℕ
  pub kept : ℕ

abbrev pub new_lan : LanState
new_lan = record { chip = new_chip; bytes = []; kept = 0 }

-- the access that one more byte makes
abbrev pub next_access : ℕ → LanState → Access
next_access b s = access_of (s.bytes ++ b ∷ [])

-- after one more byte
abbrev pub exchanged : ℕ → LanState → LanState
exchanged b s = record {
  chip = after_access (next_access b s) s.chip;
  bytes = s.bytes ++ b ∷ [];
  kept = kept_after (next_access b s) s.chip s.kept;
}

-- and the answer to it
abbrev pub answer_to : ℕ → LanState → ℕ
answer_to b s = answer_of (s.bytes ++ b ∷ []) (kept_after (next_access b s) s.chip s.kept)

-- after the transaction ended
abbrev pub released : LanState → LanState
released s = record s { bytes = [] }

-- the same transaction, the chip being another
abbrev pub with_chip : Chip → LanState → LanState
with_chip c s = record s { chip = c }
