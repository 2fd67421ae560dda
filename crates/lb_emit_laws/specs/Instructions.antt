-- The instructions for one small thing each. Register 2 is the stack pointer, and register 5 is the code's own.
use Rattle.std.specs.Prelude.{ℕ, ◌+◌, ◌-◌, ◌*◌, ◌/◌, ◌%◌, ◌^◌, nat_lt, ◌==◌, Bool, true, false, List, [], ◌∷◌, ℤ}
use Rattle.std.specs.Int.{cast_signed, w32}
use Rattle.lb_syntax.specs.declared.tree.Op.{Op}
use Rattle.lb_syntax.specs.declared.tree.Op.TheVariants.{Add, Sub, Mul, Mulhuu, Divu, Remu, And, Or, Xor, Sru, Slu, Srs, Lts, Ltu, Eq}
use Rattle.lb_syntax.specs.declared.tree.Width.{Width}
use Rattle.lb_syntax.specs.declared.tree.Width.TheVariants.{One, Two, Four}
use Rattle.lb_rv.specs.declared.instr.Instr.{Instr}
use Rattle.lb_rv.specs.declared.instr.Instr.TheVariants as instr
use Rattle.lb_flat.specs.Needs.{slot_words}

-- ---- immediates

-- a word, read with a sign
abbrev pub immediate : ℕ → ℤ
immediate n = cast_signed w32 n

-- the word that is n less than 0
abbrev pub minus : ℕ → ℕ
minus n = (2 ^ 32 - n) % 2 ^ 32

-- the multiple of 4096 that is next to a word
abbrev pub upper_part : ℕ → ℕ
upper_part n = (n + 2048) % 2 ^ 32 / 4096 * 4096

-- what is left of the word: from -2048 to 2047, read with a sign
abbrev pub lower_part : ℕ → ℕ
lower_part n = (n + (2 ^ 32 - upper_part n)) % 2 ^ 32

-- ---- jumps: instruction number n stands at the address 4 * n

-- the word that leads from instruction number i to number j, forward or back
abbrev pub between : ℕ → ℕ → ℕ
between i j = (4 * j + (2 ^ 32 - 4 * i)) % 2 ^ 32

-- a jump from number i to number j, where rd becomes the address behind it
abbrev pub jump : ℕ → ℕ → ℕ → Instr
jump rd i j = instr.Jal rd (immediate (between i j))

-- over the next instruction, where a register isn't 0. The one that it goes over is a jump, so every distance is reached
abbrev pub skip_unless_zero : ℕ → Instr
skip_unless_zero r = instr.Bne r 0 (immediate 8)

-- ---- words

-- an immediate of 12 bits, read with a sign, is the word
abbrev pub is_short : ℕ → Bool
is_short n = nat_lt ((n + 2048) % 2 ^ 32) 4096

-- the upper 20 bits are the word
abbrev pub is_upper : ℕ → Bool
is_upper n = n % 4096 == 0

-- rd becomes the word n, which is short, or else upper, or neither
abbrev pub literal_by : Bool → Bool → ℕ → ℕ → List Instr
literal_by true upper rd n = instr.Addi rd 0 (immediate n) ∷ []
literal_by false true rd n = instr.Lui rd n ∷ []
literal_by false false rd n = instr.Lui rd (upper_part n) ∷ instr.Addi rd rd (immediate (lower_part n)) ∷ []

abbrev pub literal_code : ℕ → ℕ → List Instr
literal_code rd n = literal_by (is_short n) (is_upper n) rd n

abbrev pub literal_words_by : Bool → Bool → ℕ
literal_words_by true upper = 1
literal_words_by false true = 1
literal_words_by false false = 2

abbrev pub literal_words : ℕ → ℕ
literal_words n = literal_words_by (is_short n) (is_upper n)

-- rd becomes what rs holds
abbrev pub copy_code : ℕ → ℕ → List Instr
copy_code rd rs = instr.Addi rd rs (immediate 0) ∷ []

-- ---- the frame, by byte offsets from the stack pointer

-- an immediate reaches the offset
abbrev pub is_reached : ℕ → Bool
is_reached offset = nat_lt offset 2048

-- the instructions that it takes
abbrev pub reach_words : ℕ → ℕ
reach_words offset = slot_words (is_reached offset)

-- rd becomes the word at an offset
abbrev pub get_by : Bool → ℕ → ℕ → List Instr
get_by true rd offset = instr.Lw rd 2 (immediate offset) ∷ []
get_by false rd offset = instr.Lui 5 (upper_part offset) ∷ instr.Add 5 5 2 ∷ instr.Lw rd 5 (immediate (lower_part offset)) ∷ []

abbrev pub get_code : ℕ → ℕ → List Instr
get_code rd offset = get_by (is_reached offset) rd offset

-- the word at an offset becomes what rs holds
abbrev pub put_by : Bool → ℕ → ℕ → List Instr
put_by true offset rs = instr.Sw 2 rs (immediate offset) ∷ []
put_by false offset rs = instr.Lui 5 (upper_part offset) ∷ instr.Add 5 5 2 ∷ instr.Sw 5 rs (immediate (lower_part offset)) ∷ []

abbrev pub put_code : ℕ → ℕ → List Instr
put_code offset rs = put_by (is_reached offset) offset rs

-- rd becomes the address at an offset
abbrev pub address_code : ℕ → ℕ → List Instr
address_code rd offset = instr.Lui rd (upper_part offset) ∷ instr.Addi rd rd (immediate (lower_part offset)) ∷ instr.Add rd rd 2 ∷ []

-- the stack pointer becomes so much smaller
abbrev pub down_by : Bool → ℕ → List Instr
down_by true size = instr.Addi 2 2 (immediate (minus size)) ∷ []
down_by false size = instr.Lui 5 (upper_part size) ∷ instr.Addi 5 5 (immediate (lower_part size)) ∷ instr.Sub 2 2 5 ∷ []

abbrev pub down_code : ℕ → List Instr
down_code size = down_by (is_reached size) size

-- and greater
abbrev pub up_by : Bool → ℕ → List Instr
up_by true size = instr.Addi 2 2 (immediate size) ∷ []
up_by false size = instr.Lui 5 (upper_part size) ∷ instr.Addi 5 5 (immediate (lower_part size)) ∷ instr.Add 2 2 5 ∷ []

abbrev pub up_code : ℕ → List Instr
up_code size = up_by (is_reached size) size

-- registers in turn saved in the words of the frame from number j on
abbrev pub saves_code : ℕ → List ℕ → List Instr
saves_code j [] = []
saves_code j (r ∷ rs) = instr.Sw 2 r (immediate (4 * j)) ∷ saves_code (j + 1) rs

-- and loaded again
abbrev pub loads_code : ℕ → List ℕ → List Instr
loads_code j [] = []
loads_code j (r ∷ rs) = instr.Lw r 2 (immediate (4 * j)) ∷ loads_code (j + 1) rs

-- ---- operations

-- register r becomes an operation on registers a and b
abbrev pub op_code : Op → ℕ → ℕ → ℕ → List Instr
op_code Add r a b = instr.Add r a b ∷ []
op_code Sub r a b = instr.Sub r a b ∷ []
op_code Mul r a b = instr.Mul r a b ∷ []
op_code Mulhuu r a b = instr.Mulhu r a b ∷ []
op_code Divu r a b = instr.Divu r a b ∷ []
op_code Remu r a b = instr.Remu r a b ∷ []
op_code And r a b = instr.And r a b ∷ []
op_code Or r a b = instr.Or r a b ∷ []
op_code Xor r a b = instr.Xor r a b ∷ []
op_code Sru r a b = instr.Srl r a b ∷ []
op_code Slu r a b = instr.Sll r a b ∷ []
op_code Srs r a b = instr.Sra r a b ∷ []
op_code Lts r a b = instr.Slt r a b ∷ []
op_code Ltu r a b = instr.Sltu r a b ∷ []
op_code Eq r a b = instr.Sub r a b ∷ instr.Sltiu r r (immediate 1) ∷ []

-- rd becomes the bytes from the address in rs on
abbrev pub load_instr : Width → ℕ → ℕ → Instr
load_instr One rd rs = instr.Lbu rd rs (immediate 0)
load_instr Two rd rs = instr.Lhu rd rs (immediate 0)
load_instr Four rd rs = instr.Lw rd rs (immediate 0)

-- the low bytes of rs2 are written from the address in rs1 on
abbrev pub store_instr : Width → ℕ → ℕ → Instr
store_instr One rs1 rs2 = instr.Sb rs1 rs2 (immediate 0)
store_instr Two rs1 rs2 = instr.Sh rs1 rs2 (immediate 0)
store_instr Four rs1 rs2 = instr.Sw rs1 rs2 (immediate 0)
