-- A word's signed value and a whole number's word are what Rust's casts between u32 and i32 give.
use Rattle.std.proofs.Common.{◌≡◌, ℕ, zero, suc, ◌*◌, ◌/◌, ◌%◌, ◌^◌, ◌<◌, ◌≤◌, refl, sym, ◌∙◌, ap, subst, arith, rules}
use Rattle.std.proofs.Math.Nat.{div-le_self, mod-le}
use Rattle.std.proofs.lemmas.Int.{ints, of_z-to_z, fits_signed_mul}
use Rattle.std.specs.Int.{w32, w64, cast_signed, cast_unsigned, int_shr}
use Rattle.std.proofs.lemmas.Bool.Decides.{nat_tests}
use Rattle.std.specs.Prelude.{◌==◌, if◌then◌else◌, ◌≢◌, ℤ, pos, negsuc, neg_ℤ, ◌*ℤ◌, unsigned_abs, int_div, int_rem, FitsSigned}
use Rattle.lb_word.specs.Signed.{signed_value, residue, floor_quotient}

-- ---- the value of a word

pub signed_value-cast : (w : ℕ) → w < 2 ^ 32 → signed_value w ≡ cast_signed w32 w
unfolding signed_value
signed_value-cast w h = grind (arith, ints)

pub unsigned_abs-signed_value : (w : ℕ) → w < 2 ^ 32 → unsigned_abs (signed_value w) ≤ 2 ^ 31
unsigned_abs-signed_value w h = rw (signed_value-cast w h) (grind (arith, ints))

pub cast_signed_fits : (w : ℕ) → w < 2 ^ 32 → FitsSigned w32 (cast_signed w32 w)
cast_signed_fits w h = search (arith, rules)

-- ---- the word of a whole number

pub residue-cast : (z : ℤ) → unsigned_abs z < 2 ^ 32 → residue z ≡ cast_unsigned w32 z
unfolding residue
residue-cast (pos n) h = omega arith
residue-cast (negsuc n) h = omega arith

pub residue_below : (z : ℤ) → residue z < 2 ^ 32
unfolding residue
residue_below (pos n) = omega arith
residue_below (negsuc n) = omega arith

pub unsigned_abs_below : (z : ℤ) → FitsSigned w32 z → unsigned_abs z < 2 ^ 32
unsigned_abs_below (pos n) f = omega arith
unsigned_abs_below (negsuc n) f = omega arith

-- the casts to the word and back in between change nothing
pub recast : (z : ℤ) → unsigned_abs z < 2 ^ 32 → cast_unsigned w32 (cast_signed w32 (cast_unsigned w32 z)) ≡ residue z
recast z h =
    let e = residue-cast z h in
    let below : cast_unsigned w32 z < 2 ^ 32 = subst (λ (n : ℕ). n < 2 ^ 32) e (residue_below z) in
    of_z-to_z w32 (cast_unsigned w32 z) below ∙ sym e

-- so do two more
pub recast_again : (z : ℤ) → unsigned_abs z < 2 ^ 32 →
    cast_unsigned w32 (cast_signed w32 (cast_unsigned w32 (cast_signed w32 (cast_unsigned w32 z)))) ≡ residue z
recast_again z h = ap (λ (n : ℕ). cast_unsigned w32 (cast_signed w32 n)) (recast z h ∙ residue-cast z h) ∙ recast z h

-- ---- quotients

-- the two ways of a division
pub by_zero : (b x y : ℕ) → b ≡ 0 → (if b == 0 then x else y) ≡ x
by_zero b x y h = grind (arith, nat_tests)

pub by_nonzero : (b x y : ℕ) → b ≢ 0 → (if b == 0 then x else y) ≡ y
by_nonzero b x y h = grind (arith, nat_tests)

pub floor_quotient-shift : (z : ℤ) (k : ℕ) → floor_quotient z (2 ^ k) ≡ int_shr z k
unfolding floor_quotient
floor_quotient-shift (pos n) k = refl
floor_quotient-shift (negsuc n) k = refl

pub shift_fits : (z : ℤ) (k : ℕ) → FitsSigned w32 z → FitsSigned w32 (int_shr z k)
shift_fits (pos n) k f = record { sfits = omega (arith, div-le_self n (2 ^ k)) }
shift_fits (negsuc n) k f = record { sfits = omega (arith, div-le_self n (2 ^ k)) }

unsigned_abs-negative : (n : ℕ) → unsigned_abs (neg_ℤ (pos n)) ≡ n
unsigned_abs-negative zero = refl
unsigned_abs-negative (suc n) = refl

-- a quotient is no greater than the dividend
pub unsigned_abs-quotient : (x y : ℤ) → unsigned_abs (int_div x y) ≤ unsigned_abs x
unsigned_abs-quotient (pos a) (pos b) = div-le_self a b
unsigned_abs-quotient (pos a) (negsuc b) = rw (unsigned_abs-negative (a / suc b)) (div-le_self a (suc b))
unsigned_abs-quotient (negsuc a) (pos b) = rw (unsigned_abs-negative (suc a / b)) (div-le_self (suc a) b)
unsigned_abs-quotient (negsuc a) (negsuc b) = div-le_self (suc a) (suc b)

-- nor is a remainder
negative_fits : (r n : ℕ) → r ≤ suc n → n < 2 ^ 31 → FitsSigned w32 (neg_ℤ (pos r))
negative_fits zero n h k = record { sfits = omega arith }
negative_fits (suc r) n h k = record { sfits = omega arith }

pub remainder_fits : (x y : ℤ) → FitsSigned w32 x → FitsSigned w32 (int_rem x y)
remainder_fits (pos a) y f = record { sfits = omega (arith, mod-le a (unsigned_abs y)) }
remainder_fits (negsuc a) y f = negative_fits (suc a % unsigned_abs y) a (mod-le (suc a) (unsigned_abs y)) f.sfits

-- ---- products of 64 bits

pub widened_fits : (z : ℤ) → unsigned_abs z ≤ 2 ^ 31 → FitsSigned w64 z
widened_fits (pos n) h = record { sfits = omega arith }
widened_fits (negsuc n) h = record { sfits = omega arith }

pub product_fits : (x y : ℤ) (n : ℕ) → unsigned_abs x ≤ 2 ^ 31 → unsigned_abs y ≤ n → 2 ^ 31 * n < 2 ^ 63 → FitsSigned w64 (x *ℤ y)
product_fits x y n h k m = fits_signed_mul w64 x y (2 ^ 31) n h k m
