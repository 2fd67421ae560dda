-- The instruction of a word.
use Rattle.std.specs.Prelude.{ℕ, ◌+◌, ◌-◌, ◌*◌, ◌^◌, ◌==◌, ◌&&◌, Bool, nat_lt, if◌then◌else◌, List, [], ◌∷◌, ℤ, pos, ◌-ℤ◌, Option, Some, None}
use Rattle.lb_rv.specs.declared.shape.Shape.{Shape}
use Rattle.lb_rv.specs.declared.shape.Shape.TheVariants.{Upper, Jump, Immediate, Address, Store, Branch, Register, Shift, MemoryOrder, Whole}
use Rattle.lb_rv.specs.declared.instr.Instr.{Instr}
use Rattle.lb_rv.specs.declared.instr.Instr.TheVariants.{Lui, Auipc, Jal, Jalr, Beq, Bne, Blt, Bge, Bltu, Bgeu, Lb, Lh, Lw, Lbu, Lhu, Sb, Sh, Sw, Addi, Slti, Sltiu, Xori, Ori, Andi, Slli, Srli, Srai, Add, Sub, Sll, Slt, Sltu, Xor, Srl, Sra, Or, And, Mul, Mulh, Mulhsu, Mulhu, Div, Divu, Rem, Remu, Fence, Ecall, Ebreak}
use Rattle.lb_rv.specs.Formats.{bits, columns, HasColumns}
use Rattle.lb_rv.specs.Table.{shape, IsInRange}

-- n in two's complement, where the sign bit has this weight
abbrev pub signed_by : ℕ → ℕ → ℤ
signed_by sign n = if nat_lt n sign then pos n else pos n -ℤ pos (2 * sign)

-- a number of k bits in two's complement
abbrev pub sign_extended : ℕ → ℕ → ℤ
sign_extended k n = signed_by (2 ^ (k - 1)) n

-- ---- the immediate of a word, in each format

-- U
abbrev pub upper_of : ℕ → ℕ
upper_of w = bits w 31 12 * 2 ^ 12

-- J
abbrev pub jump_of : ℕ → ℤ
jump_of w = sign_extended 21 (bits w 31 31 * 2 ^ 20 + bits w 19 12 * 2 ^ 12 + bits w 20 20 * 2 ^ 11 + bits w 30 21 * 2)

-- I
abbrev pub low_of : ℕ → ℤ
low_of w = sign_extended 12 (bits w 31 20)

-- S
abbrev pub store_of : ℕ → ℤ
store_of w = sign_extended 12 (bits w 31 25 * 2 ^ 5 + bits w 11 7)

-- B
abbrev pub branch_of : ℕ → ℤ
branch_of w = sign_extended 13 (bits w 31 31 * 2 ^ 12 + bits w 7 7 * 2 ^ 11 + bits w 30 25 * 2 ^ 5 + bits w 11 8 * 2)

-- what a word may say: its fixed bits, its registers, and its immediate in each format
pub record Fields : Type 0 where
  pub word : ℕ
  pub opcode : ℕ
  pub funct3 : ℕ
  pub funct7 : ℕ
  pub rd : ℕ
  pub rs1 : ℕ
  pub rs2 : ℕ
  pub imm_u : ℕ
  pub imm_j : ℤ
  pub imm_i : ℤ
  pub imm_s : ℤ
  pub imm_b : ℤ
  pub imm_fence : ℕ

abbrev pub fields_of : ℕ → Fields
fields_of w = record {
  word = w;
  opcode = bits w 6 0;
  funct3 = bits w 14 12;
  funct7 = bits w 31 25;
  rd = bits w 11 7;
  rs1 = bits w 19 15;
  rs2 = bits w 24 20;
  imm_u = upper_of w;
  imm_j = jump_of w;
  imm_i = low_of w;
  imm_s = store_of w;
  imm_b = branch_of w;
  imm_fence = bits w 31 20;
}

-- each instruction, with the fields of the word
abbrev pub candidates : Fields → List Instr
candidates f =
    Lui f.rd f.imm_u ∷ Auipc f.rd f.imm_u ∷ Jal f.rd f.imm_j ∷ Jalr f.rd f.rs1 f.imm_i ∷ Beq f.rs1 f.rs2 f.imm_b
    ∷ Bne f.rs1 f.rs2 f.imm_b ∷ Blt f.rs1 f.rs2 f.imm_b ∷ Bge f.rs1 f.rs2 f.imm_b ∷ Bltu f.rs1 f.rs2 f.imm_b
    ∷ Bgeu f.rs1 f.rs2 f.imm_b ∷ Lb f.rd f.rs1 f.imm_i ∷ Lh f.rd f.rs1 f.imm_i ∷ Lw f.rd f.rs1 f.imm_i ∷ Lbu f.rd f.rs1 f.imm_i
    ∷ Lhu f.rd f.rs1 f.imm_i ∷ Sb f.rs1 f.rs2 f.imm_s ∷ Sh f.rs1 f.rs2 f.imm_s ∷ Sw f.rs1 f.rs2 f.imm_s
    ∷ Addi f.rd f.rs1 f.imm_i ∷ Slti f.rd f.rs1 f.imm_i ∷ Sltiu f.rd f.rs1 f.imm_i ∷ Xori f.rd f.rs1 f.imm_i
    ∷ Ori f.rd f.rs1 f.imm_i ∷ Andi f.rd f.rs1 f.imm_i ∷ Slli f.rd f.rs1 f.rs2 ∷ Srli f.rd f.rs1 f.rs2 ∷ Srai f.rd f.rs1 f.rs2
    ∷ Add f.rd f.rs1 f.rs2 ∷ Sub f.rd f.rs1 f.rs2 ∷ Sll f.rd f.rs1 f.rs2 ∷ Slt f.rd f.rs1 f.rs2 ∷ Sltu f.rd f.rs1 f.rs2
    ∷ Xor f.rd f.rs1 f.rs2 ∷ Srl f.rd f.rs1 f.rs2 ∷ Sra f.rd f.rs1 f.rs2 ∷ Or f.rd f.rs1 f.rs2 ∷ And f.rd f.rs1 f.rs2
    ∷ Mul f.rd f.rs1 f.rs2 ∷ Mulh f.rd f.rs1 f.rs2 ∷ Mulhsu f.rd f.rs1 f.rs2 ∷ Mulhu f.rd f.rs1 f.rs2 ∷ Div f.rd f.rs1 f.rs2
    ∷ Divu f.rd f.rs1 f.rs2 ∷ Rem f.rd f.rs1 f.rs2 ∷ Remu f.rd f.rs1 f.rs2 ∷ Fence f.rd f.rs1 f.imm_fence ∷ Ecall ∷ Ebreak ∷ []

-- the opcode, funct3 and funct7 of the shape, as far as it has them, are the word's
abbrev pub is_of_shape : Fields → Shape → Bool
is_of_shape f (Upper opcode rd imm) = f.opcode == opcode
is_of_shape f (Jump opcode rd imm) = f.opcode == opcode
is_of_shape f (Immediate opcode funct3 rd rs1 imm) = f.opcode == opcode && f.funct3 == funct3
is_of_shape f (Address opcode funct3 rd rs1 imm) = f.opcode == opcode && f.funct3 == funct3
is_of_shape f (Store opcode funct3 rs1 rs2 imm) = f.opcode == opcode && f.funct3 == funct3
is_of_shape f (Branch opcode funct3 rs1 rs2 imm) = f.opcode == opcode && f.funct3 == funct3
is_of_shape f (Register opcode funct3 funct7 rd rs1 rs2) = f.opcode == opcode && f.funct3 == funct3 && f.funct7 == funct7
is_of_shape f (Shift opcode funct3 funct7 rd rs1 imm) = f.opcode == opcode && f.funct3 == funct3 && f.funct7 == funct7
is_of_shape f (MemoryOrder opcode funct3 rd rs1 imm) = f.opcode == opcode && f.funct3 == funct3
is_of_shape f (Whole word) = f.word == word

-- the first of these instructions of which the word has opcode, funct3 and funct7
abbrev pub first_of_shape : Fields → List Instr → Option Instr
first_of_shape f [] = None
first_of_shape f (i ∷ is) = if is_of_shape f (shape i) then Some i else first_of_shape f is

-- the instruction of a word: the one whose opcode, funct3 and funct7 it has, with its fields
unfoldable pub instruction_of : ℕ → Option Instr
instruction_of w = first_of_shape (fields_of w) (candidates (fields_of w))

-- the instruction is in range, and the word has its columns; or no instruction is so
abbrev pub Decodes : ℕ → Option Instr → Type 0
Decodes w (Some i) = IsInRange i × HasColumns w (columns (shape i))
Decodes w None = (i : Instr) → IsInRange i → HasColumns w (columns (shape i)) → ⊥
