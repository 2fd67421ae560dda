-- The text of instructions, and the lines of a listing.
use Rattle.std.specs.Prelude.{ℕ, ◌/◌, ◌^◌, List, [], ◌∷◌, ◌++◌, codes, decimal, ℤ, Option, Some, None}
use Rattle.std.specs.Fmt.{signed_decimal}
use Rattle.lb_trace.specs.Hex.{hex_word}
use Rattle.lb_rv.specs.declared.shape.Shape.{Shape}
use Rattle.lb_rv.specs.declared.shape.Shape.TheVariants.{Upper, Jump, Immediate, Address, Store, Branch, Register, Shift, MemoryOrder, Whole}
use Rattle.lb_rv.specs.declared.instr.Instr.{Instr}
use Rattle.lb_rv.specs.declared.instr.Instr.TheVariants.{Lui, Auipc, Jal, Jalr, Beq, Bne, Blt, Bge, Bltu, Bgeu, Lb, Lh, Lw, Lbu, Lhu, Sb, Sh, Sw, Addi, Slti, Sltiu, Xori, Ori, Andi, Slli, Srli, Srai, Add, Sub, Sll, Slt, Sltu, Xor, Srl, Sra, Or, And, Mul, Mulh, Mulhsu, Mulhu, Div, Divu, Rem, Remu, Fence, Ecall, Ebreak}
use Rattle.lb_rv.specs.Table.{shape}
use Rattle.lb_rv.specs.Decoding.{instruction_of}

-- the instruction's name
abbrev pub name : Instr → List ℕ
name (Lui rd imm) = codes "lui"
name (Auipc rd imm) = codes "auipc"
name (Jal rd imm) = codes "jal"
name (Jalr rd rs1 imm) = codes "jalr"
name (Beq rs1 rs2 imm) = codes "beq"
name (Bne rs1 rs2 imm) = codes "bne"
name (Blt rs1 rs2 imm) = codes "blt"
name (Bge rs1 rs2 imm) = codes "bge"
name (Bltu rs1 rs2 imm) = codes "bltu"
name (Bgeu rs1 rs2 imm) = codes "bgeu"
name (Lb rd rs1 imm) = codes "lb"
name (Lh rd rs1 imm) = codes "lh"
name (Lw rd rs1 imm) = codes "lw"
name (Lbu rd rs1 imm) = codes "lbu"
name (Lhu rd rs1 imm) = codes "lhu"
name (Sb rs1 rs2 imm) = codes "sb"
name (Sh rs1 rs2 imm) = codes "sh"
name (Sw rs1 rs2 imm) = codes "sw"
name (Addi rd rs1 imm) = codes "addi"
name (Slti rd rs1 imm) = codes "slti"
name (Sltiu rd rs1 imm) = codes "sltiu"
name (Xori rd rs1 imm) = codes "xori"
name (Ori rd rs1 imm) = codes "ori"
name (Andi rd rs1 imm) = codes "andi"
name (Slli rd rs1 imm) = codes "slli"
name (Srli rd rs1 imm) = codes "srli"
name (Srai rd rs1 imm) = codes "srai"
name (Add rd rs1 rs2) = codes "add"
name (Sub rd rs1 rs2) = codes "sub"
name (Sll rd rs1 rs2) = codes "sll"
name (Slt rd rs1 rs2) = codes "slt"
name (Sltu rd rs1 rs2) = codes "sltu"
name (Xor rd rs1 rs2) = codes "xor"
name (Srl rd rs1 rs2) = codes "srl"
name (Sra rd rs1 rs2) = codes "sra"
name (Or rd rs1 rs2) = codes "or"
name (And rd rs1 rs2) = codes "and"
name (Mul rd rs1 rs2) = codes "mul"
name (Mulh rd rs1 rs2) = codes "mulh"
name (Mulhsu rd rs1 rs2) = codes "mulhsu"
name (Mulhu rd rs1 rs2) = codes "mulhu"
name (Div rd rs1 rs2) = codes "div"
name (Divu rd rs1 rs2) = codes "divu"
name (Rem rd rs1 rs2) = codes "rem"
name (Remu rd rs1 rs2) = codes "remu"
name (Fence rd rs1 imm) = codes "fence"
name Ecall = codes "ecall"
name Ebreak = codes "ebreak"

-- a register, x0 to x31
abbrev pub register : ℕ → List ℕ
register n = codes "x" ++ decimal n

-- an offset from a register
abbrev pub offset : ℤ → ℕ → List ℕ
offset imm rs1 = signed_decimal imm ++ (codes "(" ++ (register rs1 ++ codes ")"))

-- the operands, in the order in which they are written; an upper immediate as its upper 20 bits
abbrev pub operands : Shape → List (List ℕ)
operands (Upper opcode rd imm) = register rd ∷ decimal (imm / 2 ^ 12) ∷ []
operands (Jump opcode rd imm) = register rd ∷ signed_decimal imm ∷ []
operands (Immediate opcode funct3 rd rs1 imm) = register rd ∷ register rs1 ∷ signed_decimal imm ∷ []
operands (Address opcode funct3 rd rs1 imm) = register rd ∷ offset imm rs1 ∷ []
operands (Store opcode funct3 rs1 rs2 imm) = register rs2 ∷ offset imm rs1 ∷ []
operands (Branch opcode funct3 rs1 rs2 imm) = register rs1 ∷ register rs2 ∷ signed_decimal imm ∷ []
operands (Register opcode funct3 funct7 rd rs1 rs2) = register rd ∷ register rs1 ∷ register rs2 ∷ []
operands (Shift opcode funct3 funct7 rd rs1 imm) = register rd ∷ register rs1 ∷ decimal imm ∷ []
operands (MemoryOrder opcode funct3 rd rs1 imm) = decimal imm ∷ register rs1 ∷ register rd ∷ []
operands (Whole word) = []

-- texts, each behind a comma and a blank
abbrev pub listed : List (List ℕ) → List ℕ
listed [] = []
listed (text ∷ texts) = codes ", " ++ (text ++ listed texts)

-- operands behind a blank, with commas between them
abbrev pub behind_name : List (List ℕ) → List ℕ
behind_name [] = []
behind_name (text ∷ texts) = codes " " ++ (text ++ listed texts)

-- an instruction as the assembler writes it
abbrev pub instruction_text : Instr → List ℕ
instruction_text i = name i ++ behind_name (operands (shape i))

-- what stands in the listing for the instruction of a word
abbrev pub decoded_text : Option Instr → List ℕ
decoded_text (Some i) = instruction_text i
decoded_text None = codes "word"

-- the line of the listing for the word at an address
unfoldable pub listing_line : ℕ → ℕ → List ℕ
listing_line at word =
    hex_word at ++ (codes " " ++ (hex_word word ++ (codes " " ++ (decoded_text (instruction_of word) ++ codes "\n"))))
