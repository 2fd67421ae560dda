-- The table of instructions, RV32I and the M extension: the format of each, its opcode, funct3 and funct7, and its fields.
use Rattle.std.specs.Prelude.{ℕ}
use Rattle.lb_rv.specs.declared.shape.Shape.{Shape}
use Rattle.lb_rv.specs.declared.shape.Shape.TheVariants.{Upper, Jump, Immediate, Address, Store, Branch, Register, Shift, MemoryOrder, Whole}
use Rattle.lb_rv.specs.declared.instr.Instr.{Instr}
use Rattle.lb_rv.specs.declared.instr.Instr.TheVariants.{Lui, Auipc, Jal, Jalr, Beq, Bne, Blt, Bge, Bltu, Bgeu, Lb, Lh, Lw, Lbu, Lhu, Sb, Sh, Sw, Addi, Slti, Sltiu, Xori, Ori, Andi, Slli, Srli, Srai, Add, Sub, Sll, Slt, Sltu, Xor, Srl, Sra, Or, And, Mul, Mulh, Mulhsu, Mulhu, Div, Divu, Rem, Remu, Fence, Ecall, Ebreak}
use Rattle.lb_rv.specs.Formats.{columns, word_of_columns, HasColumns, IsShapeInRange}

-- opcode, then funct3, then funct7, as far as the format has them, and then the fields
abbrev pub shape : Instr → Shape
shape (Lui rd imm) = Upper 0x37 rd imm
shape (Auipc rd imm) = Upper 0x17 rd imm
shape (Jal rd imm) = Jump 0x6F rd imm
shape (Jalr rd rs1 imm) = Address 0x67 0 rd rs1 imm
shape (Beq rs1 rs2 imm) = Branch 0x63 0 rs1 rs2 imm
shape (Bne rs1 rs2 imm) = Branch 0x63 1 rs1 rs2 imm
shape (Blt rs1 rs2 imm) = Branch 0x63 4 rs1 rs2 imm
shape (Bge rs1 rs2 imm) = Branch 0x63 5 rs1 rs2 imm
shape (Bltu rs1 rs2 imm) = Branch 0x63 6 rs1 rs2 imm
shape (Bgeu rs1 rs2 imm) = Branch 0x63 7 rs1 rs2 imm
shape (Lb rd rs1 imm) = Address 0x03 0 rd rs1 imm
shape (Lh rd rs1 imm) = Address 0x03 1 rd rs1 imm
shape (Lw rd rs1 imm) = Address 0x03 2 rd rs1 imm
shape (Lbu rd rs1 imm) = Address 0x03 4 rd rs1 imm
shape (Lhu rd rs1 imm) = Address 0x03 5 rd rs1 imm
shape (Sb rs1 rs2 imm) = Store 0x23 0 rs1 rs2 imm
shape (Sh rs1 rs2 imm) = Store 0x23 1 rs1 rs2 imm
shape (Sw rs1 rs2 imm) = Store 0x23 2 rs1 rs2 imm
shape (Addi rd rs1 imm) = Immediate 0x13 0 rd rs1 imm
shape (Slti rd rs1 imm) = Immediate 0x13 2 rd rs1 imm
shape (Sltiu rd rs1 imm) = Immediate 0x13 3 rd rs1 imm
shape (Xori rd rs1 imm) = Immediate 0x13 4 rd rs1 imm
shape (Ori rd rs1 imm) = Immediate 0x13 6 rd rs1 imm
shape (Andi rd rs1 imm) = Immediate 0x13 7 rd rs1 imm
shape (Slli rd rs1 imm) = Shift 0x13 1 0x00 rd rs1 imm
shape (Srli rd rs1 imm) = Shift 0x13 5 0x00 rd rs1 imm
shape (Srai rd rs1 imm) = Shift 0x13 5 0x20 rd rs1 imm
shape (Add rd rs1 rs2) = Register 0x33 0 0x00 rd rs1 rs2
shape (Sub rd rs1 rs2) = Register 0x33 0 0x20 rd rs1 rs2
shape (Sll rd rs1 rs2) = Register 0x33 1 0x00 rd rs1 rs2
shape (Slt rd rs1 rs2) = Register 0x33 2 0x00 rd rs1 rs2
shape (Sltu rd rs1 rs2) = Register 0x33 3 0x00 rd rs1 rs2
shape (Xor rd rs1 rs2) = Register 0x33 4 0x00 rd rs1 rs2
shape (Srl rd rs1 rs2) = Register 0x33 5 0x00 rd rs1 rs2
shape (Sra rd rs1 rs2) = Register 0x33 5 0x20 rd rs1 rs2
shape (Or rd rs1 rs2) = Register 0x33 6 0x00 rd rs1 rs2
shape (And rd rs1 rs2) = Register 0x33 7 0x00 rd rs1 rs2
shape (Mul rd rs1 rs2) = Register 0x33 0 0x01 rd rs1 rs2
shape (Mulh rd rs1 rs2) = Register 0x33 1 0x01 rd rs1 rs2
shape (Mulhsu rd rs1 rs2) = Register 0x33 2 0x01 rd rs1 rs2
shape (Mulhu rd rs1 rs2) = Register 0x33 3 0x01 rd rs1 rs2
shape (Div rd rs1 rs2) = Register 0x33 4 0x01 rd rs1 rs2
shape (Divu rd rs1 rs2) = Register 0x33 5 0x01 rd rs1 rs2
shape (Rem rd rs1 rs2) = Register 0x33 6 0x01 rd rs1 rs2
shape (Remu rd rs1 rs2) = Register 0x33 7 0x01 rd rs1 rs2
shape (Fence rd rs1 imm) = MemoryOrder 0x0F 0 rd rs1 imm
shape Ecall = Whole 0x00000073
shape Ebreak = Whole 0x00100073

-- registers and immediate are in range
abbrev pub IsInRange : Instr → Type 0
IsInRange i = IsShapeInRange (shape i)

-- the word has each column of the instruction's format
unfoldable pub IsEncodedBy : Instr → ℕ → Type 0
IsEncodedBy i w = HasColumns w (columns (shape i))

-- the word of an instruction: each column at its place
unfoldable pub word_of : Instr → ℕ
word_of i = word_of_columns (columns (shape i))
