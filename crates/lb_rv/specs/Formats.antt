-- The formats of instruction words: which bits of a word hold which part of an instruction, as the tables of the RISC-V unprivileged manual have them.
use Rattle.std.specs.Prelude.{◌≡◌, ℕ, ◌+◌, ◌-◌, ◌*◌, ◌/◌, ◌%◌, ◌^◌, ◌<◌, List, [], ◌∷◌, ℤ, pos, negsuc}
use Rattle.std.specs.Int.{cast_unsigned, w32}
use Rattle.lb_rv.specs.declared.shape.Shape.{Shape}
use Rattle.lb_rv.specs.declared.shape.Shape.TheVariants.{Upper, Jump, Immediate, Address, Store, Branch, Register, Shift, MemoryOrder, Whole}

-- bits high to low of a number
abbrev pub bits : ℕ → ℕ → ℕ → ℕ
bits n high low = n / 2 ^ low % 2 ^ (high + 1 - low)

-- an immediate as a word, in two's complement
abbrev pub immediate_word : ℤ → ℕ
immediate_word imm = cast_unsigned w32 imm

-- a column of a format: bits high to low of the word are this value
pub record Column : Type 0 where
  pub high : ℕ
  pub low : ℕ
  pub value : ℕ

abbrev pub column : ℕ → ℕ → ℕ → Column
column high low value = record { high = high; low = low; value = value }

-- the columns of the I format
abbrev pub immediate_columns : ℕ → ℕ → ℕ → ℕ → ℕ → List Column
immediate_columns opcode funct3 rd rs1 imm =
    column 31 20 imm ∷ column 19 15 rs1 ∷ column 14 12 funct3 ∷ column 11 7 rd ∷ column 6 0 opcode ∷ []

-- the columns of the R format
abbrev pub register_columns : ℕ → ℕ → ℕ → ℕ → ℕ → ℕ → List Column
register_columns opcode funct3 funct7 rd rs1 rs2 =
    column 31 25 funct7 ∷ column 24 20 rs2 ∷ column 19 15 rs1 ∷ column 14 12 funct3 ∷ column 11 7 rd ∷ column 6 0 opcode ∷ []

-- the columns of the S format, of an immediate in two's complement
abbrev pub store_columns : ℕ → ℕ → ℕ → ℕ → ℕ → List Column
store_columns opcode funct3 rs1 rs2 n =
    column 31 25 (bits n 11 5) ∷ column 24 20 rs2 ∷ column 19 15 rs1 ∷ column 14 12 funct3 ∷ column 11 7 (bits n 4 0)
    ∷ column 6 0 opcode ∷ []

-- the columns of the B format, likewise
abbrev pub branch_columns : ℕ → ℕ → ℕ → ℕ → ℕ → List Column
branch_columns opcode funct3 rs1 rs2 n =
    column 31 31 (bits n 12 12) ∷ column 30 25 (bits n 10 5) ∷ column 24 20 rs2 ∷ column 19 15 rs1 ∷ column 14 12 funct3
    ∷ column 11 8 (bits n 4 1) ∷ column 7 7 (bits n 11 11) ∷ column 6 0 opcode ∷ []

-- the columns of the J format, likewise
abbrev pub jump_columns : ℕ → ℕ → ℕ → List Column
jump_columns opcode rd n =
    column 31 31 (bits n 20 20) ∷ column 30 21 (bits n 10 1) ∷ column 20 20 (bits n 11 11) ∷ column 19 12 (bits n 19 12)
    ∷ column 11 7 rd ∷ column 6 0 opcode ∷ []

-- the columns of a shape, from bit 31 down to bit 0: each bit is in one
abbrev pub columns : Shape → List Column
columns (Upper opcode rd imm) = column 31 12 (bits imm 31 12) ∷ column 11 7 rd ∷ column 6 0 opcode ∷ []
columns (Jump opcode rd imm) = jump_columns opcode rd (immediate_word imm)
columns (Immediate opcode funct3 rd rs1 imm) = immediate_columns opcode funct3 rd rs1 (bits (immediate_word imm) 11 0)
columns (Address opcode funct3 rd rs1 imm) = immediate_columns opcode funct3 rd rs1 (bits (immediate_word imm) 11 0)
columns (Store opcode funct3 rs1 rs2 imm) = store_columns opcode funct3 rs1 rs2 (immediate_word imm)
columns (Branch opcode funct3 rs1 rs2 imm) = branch_columns opcode funct3 rs1 rs2 (immediate_word imm)
columns (Register opcode funct3 funct7 rd rs1 rs2) = register_columns opcode funct3 funct7 rd rs1 rs2
columns (Shift opcode funct3 funct7 rd rs1 imm) = register_columns opcode funct3 funct7 rd rs1 imm
columns (MemoryOrder opcode funct3 rd rs1 imm) = immediate_columns opcode funct3 rd rs1 imm
columns (Whole word) = column 31 0 word ∷ []

-- each column's bits of the word are its value
abbrev pub HasColumns : ℕ → List Column → Type 0
HasColumns w [] = Unit {0}
HasColumns w (c ∷ cs) = (bits w c.high c.low ≡ c.value) × HasColumns w cs

-- the word of these columns: each value at its place
abbrev pub word_of_columns : List Column → ℕ
word_of_columns [] = 0
word_of_columns (c ∷ cs) = c.value * 2 ^ c.low + word_of_columns cs

-- a signed number of k bits: from -2 ^ (k - 1) to 2 ^ (k - 1) - 1
abbrev pub IsSignedOf : ℕ → ℤ → Type 0
IsSignedOf k (pos n) = n < 2 ^ (k - 1)
IsSignedOf k (negsuc n) = n < 2 ^ (k - 1)

-- the immediate is even
abbrev pub IsEven : ℤ → Type 0
IsEven imm = immediate_word imm % 2 ≡ 0

-- the fields of a shape are in range
abbrev pub IsShapeInRange : Shape → Type 0
IsShapeInRange (Upper opcode rd imm) = (rd < 32) × (imm % 4096 ≡ 0) × (imm < 2 ^ 32)
IsShapeInRange (Jump opcode rd imm) = (rd < 32) × IsSignedOf 21 imm × IsEven imm
IsShapeInRange (Immediate opcode funct3 rd rs1 imm) = (rd < 32) × (rs1 < 32) × IsSignedOf 12 imm
IsShapeInRange (Address opcode funct3 rd rs1 imm) = (rd < 32) × (rs1 < 32) × IsSignedOf 12 imm
IsShapeInRange (Store opcode funct3 rs1 rs2 imm) = (rs1 < 32) × (rs2 < 32) × IsSignedOf 12 imm
IsShapeInRange (Branch opcode funct3 rs1 rs2 imm) = (rs1 < 32) × (rs2 < 32) × IsSignedOf 13 imm × IsEven imm
IsShapeInRange (Register opcode funct3 funct7 rd rs1 rs2) = (rd < 32) × (rs1 < 32) × (rs2 < 32)
IsShapeInRange (Shift opcode funct3 funct7 rd rs1 imm) = (rd < 32) × (rs1 < 32) × (imm < 32)
IsShapeInRange (MemoryOrder opcode funct3 rd rs1 imm) = (rd < 32) × (rs1 < 32) × (imm < 4096)
IsShapeInRange (Whole word) = Unit {0}

-- the fixed bits of a shape are in range
abbrev pub HasFixedBits : Shape → Type 0
HasFixedBits (Upper opcode rd imm) = opcode < 128
HasFixedBits (Jump opcode rd imm) = opcode < 128
HasFixedBits (Immediate opcode funct3 rd rs1 imm) = (opcode < 128) × (funct3 < 8)
HasFixedBits (Address opcode funct3 rd rs1 imm) = (opcode < 128) × (funct3 < 8)
HasFixedBits (Store opcode funct3 rs1 rs2 imm) = (opcode < 128) × (funct3 < 8)
HasFixedBits (Branch opcode funct3 rs1 rs2 imm) = (opcode < 128) × (funct3 < 8)
HasFixedBits (Register opcode funct3 funct7 rd rs1 rs2) = (opcode < 128) × (funct3 < 8) × (funct7 < 128)
HasFixedBits (Shift opcode funct3 funct7 rd rs1 imm) = (opcode < 128) × (funct3 < 8) × (funct7 < 128)
HasFixedBits (MemoryOrder opcode funct3 rd rs1 imm) = (opcode < 128) × (funct3 < 8)
HasFixedBits (Whole word) = word < 2 ^ 32
