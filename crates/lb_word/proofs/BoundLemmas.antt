-- Each result is a word: below 2 ^ 32.
use Rattle.std.proofs.Common.{ℕ, ◌-◌, ◌/◌, ◌%◌, ◌^◌, ◌<◌, ◌≤◌, Bool, true, false, arith}
use Rattle.std.proofs.Math.Nat.{div-le_self, mul-le-mul}
use Rattle.std.specs.Int.Bits.{and_lt, or_lt, xor_lt}
use Rattle.std.specs.Prelude.{nat_lt, int_lt, int_div, int_rem, ◌==◌, if◌then◌else◌}
use Rattle.lb_word.specs.Signed.{signed_value}
use Rattle.lb_word.specs.Word.{add_of, and_of, div_of, divu_of, eq_of, lts_of, ltu_of, mul_of, mulh_of, mulhsu_of, mulhuu_of, or_of, rem_of, remu_of, slu_of, srs_of, sru_of, sub_of, xor_of}
use Rattle.lb_word.proofs.SignedLemmas.{residue_below}

-- of a choice between two words
choice_below : (t : Bool) (x y : ℕ) → x < 2 ^ 32 → y < 2 ^ 32 → (if t then x else y) < 2 ^ 32
choice_below true x y h k = h
choice_below false x y h k = k

pub add_of_below : (a b : ℕ) → add_of a b < 2 ^ 32
add_of_below a b = omega arith

pub sub_of_below : (a b : ℕ) → sub_of a b < 2 ^ 32
sub_of_below a b = omega arith

pub mul_of_below : (a b : ℕ) → mul_of a b < 2 ^ 32
mul_of_below a b = omega arith

pub mulhuu_of_below : (a b : ℕ) → a < 2 ^ 32 → b < 2 ^ 32 → mulhuu_of a b < 2 ^ 32
mulhuu_of_below a b h k =
    let left : a ≤ 2 ^ 32 - 1 = omega arith in
    let right : b ≤ 2 ^ 32 - 1 = omega arith in
    omega (arith, mul-le-mul left right)

pub mulh_of_below : (a b : ℕ) → mulh_of a b < 2 ^ 32
unfolding mulh_of
mulh_of_below a b = residue_below _

pub mulhsu_of_below : (a b : ℕ) → mulhsu_of a b < 2 ^ 32
unfolding mulhsu_of
mulhsu_of_below a b = residue_below _

pub divu_of_below : (a b : ℕ) → a < 2 ^ 32 → divu_of a b < 2 ^ 32
divu_of_below a b h = choice_below (b == 0) 0xFFFF_FFFF (a / b) (omega arith) (omega (arith, div-le_self a b))

pub remu_of_below : (a b : ℕ) → a < 2 ^ 32 → remu_of a b < 2 ^ 32
remu_of_below a b h = choice_below (b == 0) a (a % b) h (omega arith)

pub div_of_below : (a b : ℕ) → div_of a b < 2 ^ 32
unfolding div_of
div_of_below a b = choice_below (b == 0) 0xFFFF_FFFF _ (omega arith) (residue_below (int_div (signed_value a) (signed_value b)))

pub rem_of_below : (a b : ℕ) → a < 2 ^ 32 → rem_of a b < 2 ^ 32
unfolding rem_of
rem_of_below a b h = choice_below (b == 0) a _ h (residue_below (int_rem (signed_value a) (signed_value b)))

pub and_of_below : (a b : ℕ) → a < 2 ^ 32 → b < 2 ^ 32 → and_of a b < 2 ^ 32
and_of_below a b h k = and_lt 32 a b h k

pub or_of_below : (a b : ℕ) → a < 2 ^ 32 → b < 2 ^ 32 → or_of a b < 2 ^ 32
or_of_below a b h k = or_lt 32 a b h k

pub xor_of_below : (a b : ℕ) → a < 2 ^ 32 → b < 2 ^ 32 → xor_of a b < 2 ^ 32
xor_of_below a b h k = xor_lt 32 a b h k

pub sru_of_below : (a b : ℕ) → a < 2 ^ 32 → sru_of a b < 2 ^ 32
sru_of_below a b h = omega (arith, div-le_self a (2 ^ (b % 32)))

pub slu_of_below : (a b : ℕ) → slu_of a b < 2 ^ 32
slu_of_below a b = omega arith

pub srs_of_below : (a b : ℕ) → srs_of a b < 2 ^ 32
unfolding srs_of
srs_of_below a b = residue_below _

pub lts_of_below : (a b : ℕ) → lts_of a b < 2 ^ 32
unfolding lts_of
lts_of_below a b = choice_below (int_lt (signed_value a) (signed_value b)) 1 0 (omega arith) (omega arith)

pub ltu_of_below : (a b : ℕ) → ltu_of a b < 2 ^ 32
ltu_of_below a b = choice_below (nat_lt a b) 1 0 (omega arith) (omega arith)

pub eq_of_below : (a b : ℕ) → eq_of a b < 2 ^ 32
eq_of_below a b = choice_below (a == b) 1 0 (omega arith) (omega arith)
