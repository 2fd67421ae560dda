-- The phase of a transaction, which a `Lan` keeps in place of the bytes.
use Rattle.std.specs.Prelude.{ℕ, List, [], ◌∷◌, slice_index}
use Rattle.lb_word.specs.Bytes.{word_of_bytes, bytes_of_word}
use Rattle.lb_lan.specs.declared.phase.Phase.{Phase}
use Rattle.lb_lan.specs.declared.phase.Phase.TheVariants.{Idle, ReadHigh, ReadLow, ReadDummy, ReadFirst, ReadSecond, ReadThird, ReadFourth, WriteHigh, WriteLow, WriteFirst, WriteSecond, WriteThird, WriteFourth, Over}
use Rattle.lb_lan.specs.Registers.{Chip, value_at, after_read, after_write}
use Rattle.lb_lan.specs.Transaction.{Instruction, Reads, Writes, Ignored, instruction, address_of, LanState}

-- ---- the phase that a list of bytes leads to

-- by the instruction and the bytes behind its own, and the value kept
abbrev pub phase_in : Instruction → List ℕ → ℕ → Phase
phase_in Reads [] kept = ReadHigh
phase_in Reads (high ∷ []) kept = ReadLow high
phase_in Reads (high ∷ low ∷ []) kept = ReadDummy (address_of high low)
phase_in Reads (high ∷ low ∷ dummy ∷ []) kept = ReadFirst (address_of high low)
phase_in Reads (high ∷ low ∷ dummy ∷ b ∷ []) kept = ReadSecond kept
phase_in Reads (high ∷ low ∷ dummy ∷ b ∷ c ∷ []) kept = ReadThird kept
phase_in Reads (high ∷ low ∷ dummy ∷ b ∷ c ∷ d ∷ []) kept = ReadFourth kept
phase_in Writes [] kept = WriteHigh
phase_in Writes (high ∷ []) kept = WriteLow high
phase_in Writes (high ∷ low ∷ []) kept = WriteFirst (address_of high low)
phase_in Writes (high ∷ low ∷ p ∷ []) kept = WriteSecond (address_of high low) p
phase_in Writes (high ∷ low ∷ p ∷ q ∷ []) kept = WriteThird (address_of high low) p q
phase_in Writes (high ∷ low ∷ p ∷ q ∷ r ∷ []) kept = WriteFourth (address_of high low) p q r
phase_in i bytes kept = Over

abbrev pub phase_of : List ℕ → ℕ → Phase
phase_of [] kept = Idle
phase_of (b ∷ bytes) kept = phase_in (instruction b) bytes kept

-- ---- the next byte by the phase

-- the phase behind an instruction
abbrev pub first_phase : Instruction → Phase
first_phase Reads = ReadHigh
first_phase Writes = WriteHigh
first_phase Ignored = Over

abbrev pub next_phase : Phase → ℕ → Chip → Phase
next_phase Idle b c = first_phase (instruction b)
next_phase ReadHigh b c = ReadLow b
next_phase (ReadLow high) b c = ReadDummy (address_of high b)
next_phase (ReadDummy a) b c = ReadFirst a
next_phase (ReadFirst a) b c = ReadSecond (value_at a c)
next_phase (ReadSecond v) b c = ReadThird v
next_phase (ReadThird v) b c = ReadFourth v
next_phase (ReadFourth v) b c = Over
next_phase WriteHigh b c = WriteLow b
next_phase (WriteLow high) b c = WriteFirst (address_of high b)
next_phase (WriteFirst a) b c = WriteSecond a b
next_phase (WriteSecond a p) b c = WriteThird a p b
next_phase (WriteThird a p q) b c = WriteFourth a p q b
next_phase (WriteFourth a p q r) b c = Over
next_phase Over b c = Over

-- the chip after the byte
abbrev pub next_chip : Phase → ℕ → Chip → Chip
next_chip (ReadFirst a) b c = after_read a c
next_chip (WriteFourth a p q r) b c = after_write a (word_of_bytes (p ∷ q ∷ r ∷ b ∷ [])) c
next_chip phase b c = c

-- the answer to the byte, whatever it is
abbrev pub phase_answer : Phase → Chip → ℕ
phase_answer (ReadFirst a) c = slice_index (bytes_of_word (value_at a c)) 0
phase_answer (ReadSecond v) c = slice_index (bytes_of_word v) 1
phase_answer (ReadThird v) c = slice_index (bytes_of_word v) 2
phase_answer (ReadFourth v) c = slice_index (bytes_of_word v) 3
phase_answer phase c = 0xFF

-- ---- what contracts see in a `Lan`

pub record LanView : Type 0 where
  pub chip : Chip
  pub phase : Phase

-- that of a chip, its transaction and its kept value
abbrev pub view_of : LanState → LanView
view_of s = record { chip = s.chip; phase = phase_of s.bytes s.kept }

-- after one more byte, and the answer to it
abbrev pub view_exchanged : ℕ → LanView → LanView
view_exchanged b l = record { chip = next_chip l.phase b l.chip; phase = next_phase l.phase b l.chip }

abbrev pub view_answer : LanView → ℕ
view_answer l = phase_answer l.phase l.chip

-- after the transaction ended
abbrev pub view_released : LanView → LanView
view_released l = record l { phase = Idle }

-- the same transaction, the chip being another
abbrev pub view_with_chip : Chip → LanView → LanView
view_with_chip c l = record l { chip = c }
