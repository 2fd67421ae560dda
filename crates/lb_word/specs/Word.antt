-- Arithmetic on words of 32 bits. A word is a number below 2 ^ 32; each result is one too.
use Rattle.std.specs.Prelude.{ℕ, ◌+◌, ◌-◌, ◌*◌, ◌/◌, ◌%◌, ◌^◌, pos, ◌*ℤ◌, bit_and, bit_or, bit_xor, int_lt, int_div, int_rem, nat_lt, ◌==◌, if◌then◌else◌}
use Rattle.lb_word.specs.Signed.{signed_value, residue, floor_quotient}

-- ---- sums, differences and products, modulo 2 ^ 32

-- the sum
abbrev pub add_of : ℕ → ℕ → ℕ
add_of a b = (a + b) % 2 ^ 32

-- the difference a - b, to which 2 ^ 32 is added first so that it stays above 0
abbrev pub sub_of : ℕ → ℕ → ℕ
sub_of a b = (a + (2 ^ 32 - b)) % 2 ^ 32

-- the lower half of the product
abbrev pub mul_of : ℕ → ℕ → ℕ
mul_of a b = (a * b) % 2 ^ 32

-- ---- the upper half of the product of 64 bits

-- unsigned by unsigned
abbrev pub mulhuu_of : ℕ → ℕ → ℕ
mulhuu_of a b = a * b / 2 ^ 32

-- signed by signed
unfoldable pub mulh_of : ℕ → ℕ → ℕ
mulh_of a b = residue (floor_quotient (signed_value a *ℤ signed_value b) (2 ^ 32))

-- signed by unsigned
unfoldable pub mulhsu_of : ℕ → ℕ → ℕ
mulhsu_of a b = residue (floor_quotient (signed_value a *ℤ pos b) (2 ^ 32))

-- ---- division

-- the unsigned quotient; by zero all bits are set
abbrev pub divu_of : ℕ → ℕ → ℕ
divu_of a b = if b == 0 then 0xFFFF_FFFF else a / b

-- the unsigned remainder; by zero it is the dividend
abbrev pub remu_of : ℕ → ℕ → ℕ
remu_of a b = if b == 0 then a else a % b

-- the signed quotient, rounded toward zero; by zero it is -1.
-- -2 ^ 31 by -1 is 2 ^ 31, which is no signed word: modulo 2 ^ 32 it is -2 ^ 31
unfoldable pub div_of : ℕ → ℕ → ℕ
div_of a b = if b == 0 then 0xFFFF_FFFF else residue (int_div (signed_value a) (signed_value b))

-- the signed remainder, with the dividend's sign; by zero it is the dividend. Of -2 ^ 31 by -1 it is 0
unfoldable pub rem_of : ℕ → ℕ → ℕ
rem_of a b = if b == 0 then a else residue (int_rem (signed_value a) (signed_value b))

-- ---- bits

-- the bits set in both
abbrev pub and_of : ℕ → ℕ → ℕ
and_of a b = bit_and a b

-- the bits set in one at least
abbrev pub or_of : ℕ → ℕ → ℕ
or_of a b = bit_or a b

-- the bits set in exactly one
abbrev pub xor_of : ℕ → ℕ → ℕ
xor_of a b = bit_xor a b

-- ---- shifts, by the low five bits of b

-- to the right, zeros come in
abbrev pub sru_of : ℕ → ℕ → ℕ
sru_of a b = a / 2 ^ (b % 32)

-- to the left
abbrev pub slu_of : ℕ → ℕ → ℕ
slu_of a b = (a * 2 ^ (b % 32)) % 2 ^ 32

-- to the right, the sign comes in: the signed value by a power of two, rounded down
unfoldable pub srs_of : ℕ → ℕ → ℕ
srs_of a b = residue (floor_quotient (signed_value a) (2 ^ (b % 32)))

-- ---- comparisons: 1 where they hold, else 0

-- a is below b, both signed
unfoldable pub lts_of : ℕ → ℕ → ℕ
lts_of a b = if int_lt (signed_value a) (signed_value b) then 1 else 0

-- a is below b, both unsigned
abbrev pub ltu_of : ℕ → ℕ → ℕ
ltu_of a b = if nat_lt a b then 1 else 0

-- a is b
abbrev pub eq_of : ℕ → ℕ → ℕ
eq_of a b = if a == b then 1 else 0
