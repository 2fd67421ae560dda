-- What each instruction does. This crate tells its registers alone; the outcome of an instruction, which all that runs instructions shares, cites the whole table.
use Rattle.std.specs.Prelude.{ℕ, ◌*◌, ◌/◌, ◌==◌, Bool, true, false, if◌then◌else◌, ℤ}
use Rattle.lb_word.specs.Word.{add_of, sub_of, mul_of, mulh_of, mulhsu_of, mulhuu_of, div_of, divu_of, rem_of, remu_of, and_of, or_of, xor_of, slu_of, sru_of, srs_of, lts_of, ltu_of, eq_of}
use Rattle.lb_rv.specs.declared.shape.Shape.{Shape}
use Rattle.lb_rv.specs.declared.shape.Shape.TheVariants.{Upper, Jump, Immediate, Address, Store, Branch, Register, Shift}
use Rattle.lb_rv.specs.declared.instr.Instr.{Instr}
use Rattle.lb_rv.specs.declared.instr.Instr.TheVariants.{Lui, Auipc, Jal, Jalr, Beq, Bne, Blt, Bge, Bltu, Bgeu, Lb, Lh, Lw, Lbu, Lhu, Sb, Sh, Sw, Addi, Slti, Sltiu, Xori, Ori, Andi, Slli, Srli, Srai, Add, Sub, Sll, Slt, Sltu, Xor, Srl, Sra, Or, And, Mul, Mulh, Mulhsu, Mulhu, Div, Divu, Rem, Remu, Fence, Ecall, Ebreak}
use Rattle.lb_rv.specs.declared.instr.Cause.{Cause}
use Rattle.lb_rv.specs.declared.instr.Cause.TheVariants.{Ecall as StopsAtEcall, Ebreak as StopsAtEbreak}
use Rattle.lb_rv.specs.Formats.{immediate_word}
use Rattle.lb_rv.specs.Table.{shape}
use Rattle.lb_rv.specs.Decoding.{sign_extended}

-- ---- the registers of an instruction; 0 where there is none, since x0 is always 0

-- rs1 and rs2, as far as the instruction reads them
abbrev pub sources_of_shape : Shape → ℕ × ℕ
sources_of_shape (Immediate opcode funct3 rd rs1 imm) = (rs1, 0)
sources_of_shape (Address opcode funct3 rd rs1 imm) = (rs1, 0)
sources_of_shape (Store opcode funct3 rs1 rs2 imm) = (rs1, rs2)
sources_of_shape (Branch opcode funct3 rs1 rs2 imm) = (rs1, rs2)
sources_of_shape (Register opcode funct3 funct7 rd rs1 rs2) = (rs1, rs2)
sources_of_shape (Shift opcode funct3 funct7 rd rs1 imm) = (rs1, 0)
sources_of_shape _ = (0, 0)

abbrev pub sources : Instr → ℕ × ℕ
sources i = sources_of_shape (shape i)

-- the register that it writes; FENCE writes none
abbrev pub destination_of_shape : Shape → ℕ
destination_of_shape (Upper opcode rd imm) = rd
destination_of_shape (Jump opcode rd imm) = rd
destination_of_shape (Immediate opcode funct3 rd rs1 imm) = rd
destination_of_shape (Address opcode funct3 rd rs1 imm) = rd
destination_of_shape (Register opcode funct3 funct7 rd rs1 rs2) = rd
destination_of_shape (Shift opcode funct3 funct7 rd rs1 imm) = rd
destination_of_shape _ = 0

abbrev pub destination : Instr → ℕ
destination i = destination_of_shape (shape i)

-- ---- the effect of an instruction

-- how many bytes an access has, and whether a load takes them with their sign
pub record Access : Type 0 where
  pub bytes : ℕ
  pub signed : Bool

abbrev pub access_of : ℕ → Bool → Access
access_of bytes signed = record { bytes = bytes; signed = signed }

-- the access of a load or a store, which is the instruction's alone, whatever its registers hold; of another instruction it has no bytes
abbrev pub access : Instr → Access
access (Lb rd rs1 imm) = access_of 1 true
access (Lh rd rs1 imm) = access_of 2 true
access (Lw rd rs1 imm) = access_of 4 false
access (Lbu rd rs1 imm) = access_of 1 false
access (Lhu rd rs1 imm) = access_of 2 false
access (Sb rs1 rs2 imm) = access_of 1 false
access (Sh rs1 rs2 imm) = access_of 2 false
access (Sw rs1 rs2 imm) = access_of 4 false
access _ = access_of 0 false

pub data Effect : Type 0 where
  -- the destination becomes this value, and the pc this address
  Sets : (value : ℕ) → (next : ℕ) → Effect
  -- the pc becomes this address
  Goes : (next : ℕ) → Effect
  -- the destination becomes what the instruction's access loads from this address
  Loads : (address : ℕ) → Effect
  -- the lowest bytes of this value, as many as the instruction's access has, are stored at this address
  Stores : (address : ℕ) → (value : ℕ) → Effect
  -- the processor halts before the instruction
  Stops : Cause → Effect

-- the word that a load makes of the bytes that it read, which are the number n
abbrev pub loaded_word : Access → ℕ → ℕ
loaded_word taken n = if taken.signed then immediate_word (sign_extended (8 * taken.bytes) n) else n

-- the address behind the instruction
abbrev pub next_address : ℕ → ℕ
next_address pc = add_of pc 4

-- a sum with a signed immediate
abbrev pub plus_immediate : ℕ → ℤ → ℕ
plus_immediate a imm = add_of a (immediate_word imm)

-- sets the destination, and goes on behind the instruction
abbrev pub gives : ℕ → ℕ → Effect
gives pc value = Sets value (next_address pc)

-- a branch, taken where the test of the words is 1, or where it is 0
abbrev pub branches_if : ℕ → ℕ → ℤ → Effect
branches_if test pc imm = Goes (if test == 1 then plus_immediate pc imm else next_address pc)

abbrev pub branches_unless : ℕ → ℕ → ℤ → Effect
branches_unless test pc imm = Goes (if test == 0 then plus_immediate pc imm else next_address pc)

-- an access at the sum of rs1 and the immediate
abbrev pub loads : ℕ → ℤ → Effect
loads a imm = Loads (plus_immediate a imm)

abbrev pub stores : ℕ → ℤ → ℕ → Effect
stores a imm b = Stores (plus_immediate a imm) b

-- the effect of the instruction at the address pc, where rs1 and rs2 have the values a and b
abbrev pub effect : Instr → ℕ → ℕ → ℕ → Effect
effect (Lui rd imm) pc a b = gives pc imm
effect (Auipc rd imm) pc a b = gives pc (add_of pc imm)
effect (Jal rd imm) pc a b = Sets (next_address pc) (plus_immediate pc imm)
effect (Jalr rd rs1 imm) pc a b = Sets (next_address pc) (plus_immediate a imm / 2 * 2)
effect (Beq rs1 rs2 imm) pc a b = branches_if (eq_of a b) pc imm
effect (Bne rs1 rs2 imm) pc a b = branches_unless (eq_of a b) pc imm
effect (Blt rs1 rs2 imm) pc a b = branches_if (lts_of a b) pc imm
effect (Bge rs1 rs2 imm) pc a b = branches_unless (lts_of a b) pc imm
effect (Bltu rs1 rs2 imm) pc a b = branches_if (ltu_of a b) pc imm
effect (Bgeu rs1 rs2 imm) pc a b = branches_unless (ltu_of a b) pc imm
effect (Lb rd rs1 imm) pc a b = loads a imm
effect (Lh rd rs1 imm) pc a b = loads a imm
effect (Lw rd rs1 imm) pc a b = loads a imm
effect (Lbu rd rs1 imm) pc a b = loads a imm
effect (Lhu rd rs1 imm) pc a b = loads a imm
effect (Sb rs1 rs2 imm) pc a b = stores a imm b
effect (Sh rs1 rs2 imm) pc a b = stores a imm b
effect (Sw rs1 rs2 imm) pc a b = stores a imm b
effect (Addi rd rs1 imm) pc a b = gives pc (plus_immediate a imm)
effect (Slti rd rs1 imm) pc a b = gives pc (lts_of a (immediate_word imm))
effect (Sltiu rd rs1 imm) pc a b = gives pc (ltu_of a (immediate_word imm))
effect (Xori rd rs1 imm) pc a b = gives pc (xor_of a (immediate_word imm))
effect (Ori rd rs1 imm) pc a b = gives pc (or_of a (immediate_word imm))
effect (Andi rd rs1 imm) pc a b = gives pc (and_of a (immediate_word imm))
effect (Slli rd rs1 imm) pc a b = gives pc (slu_of a imm)
effect (Srli rd rs1 imm) pc a b = gives pc (sru_of a imm)
effect (Srai rd rs1 imm) pc a b = gives pc (srs_of a imm)
effect (Add rd rs1 rs2) pc a b = gives pc (add_of a b)
effect (Sub rd rs1 rs2) pc a b = gives pc (sub_of a b)
effect (Sll rd rs1 rs2) pc a b = gives pc (slu_of a b)
effect (Slt rd rs1 rs2) pc a b = gives pc (lts_of a b)
effect (Sltu rd rs1 rs2) pc a b = gives pc (ltu_of a b)
effect (Xor rd rs1 rs2) pc a b = gives pc (xor_of a b)
effect (Srl rd rs1 rs2) pc a b = gives pc (sru_of a b)
effect (Sra rd rs1 rs2) pc a b = gives pc (srs_of a b)
effect (Or rd rs1 rs2) pc a b = gives pc (or_of a b)
effect (And rd rs1 rs2) pc a b = gives pc (and_of a b)
effect (Mul rd rs1 rs2) pc a b = gives pc (mul_of a b)
effect (Mulh rd rs1 rs2) pc a b = gives pc (mulh_of a b)
effect (Mulhsu rd rs1 rs2) pc a b = gives pc (mulhsu_of a b)
effect (Mulhu rd rs1 rs2) pc a b = gives pc (mulhuu_of a b)
effect (Div rd rs1 rs2) pc a b = gives pc (div_of a b)
effect (Divu rd rs1 rs2) pc a b = gives pc (divu_of a b)
effect (Rem rd rs1 rs2) pc a b = gives pc (rem_of a b)
effect (Remu rd rs1 rs2) pc a b = gives pc (remu_of a b)
effect (Fence rd rs1 imm) pc a b = Goes (next_address pc)
effect Ecall pc a b = Stops StopsAtEcall
effect Ebreak pc a b = Stops StopsAtEbreak
