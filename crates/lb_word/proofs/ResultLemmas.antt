-- What the signed operations give, in the words of the code's casts between u32, i32 and i64.
use Rattle.std.proofs.Common.{◌≡◌, ℕ, ◌-◌, ◌%◌, ◌^◌, ◌<◌, ◌≤◌, Bool, true, false, refl, sym, ◌∙◌, ap, subst, arith}
use Rattle.std.proofs.lemmas.Int.{ints, of_z-to_z, to_z-of_z}
use Rattle.std.specs.Int.{w32, w64, cast_signed, cast_unsigned, from_bool, int_shr, int_wrapping_div}
use Rattle.std.specs.Prelude.{◌≢◌, ℤ, pos, negsuc, ◌*ℤ◌, unsigned_abs, int_lt, int_div, int_rem, FitsSigned, if◌then◌else◌}
use Rattle.lb_word.specs.Signed.{signed_value, residue, floor_quotient}
use Rattle.lb_word.specs.Word.{div_of, lts_of, mulh_of, mulhsu_of, rem_of, srs_of}
use Rattle.lb_word.proofs.SignedLemmas.{by_zero, by_nonzero, cast_signed_fits, floor_quotient-shift, product_fits, recast, recast_again, residue-cast, shift_fits, remainder_fits, unsigned_abs-quotient, unsigned_abs-signed_value, unsigned_abs_below, widened_fits, signed_value-cast}

one_or_zero : (t : Bool) → (if t then 1 else 0) ≡ from_bool t
one_or_zero true = refl
one_or_zero false = refl

pub lts_of_cast : (a b : ℕ) → a < 2 ^ 32 → b < 2 ^ 32 → lts_of a b ≡ from_bool (int_lt (cast_signed w32 a) (cast_signed w32 b))
unfolding lts_of
lts_of_cast a b h k =
    one_or_zero (int_lt (signed_value a) (signed_value b)) ∙ (λ i. from_bool (int_lt (signed_value-cast a h i) (signed_value-cast b k i)))

pub srs_of_cast : (a b : ℕ) → a < 2 ^ 32 → srs_of a b ≡ cast_unsigned w32 (int_shr (cast_signed w32 a) (b % 32))
unfolding srs_of
srs_of_cast a b h =
    let shifted = int_shr (cast_signed w32 a) (b % 32) in
    let small : unsigned_abs shifted < 2 ^ 32 = unsigned_abs_below shifted (shift_fits (cast_signed w32 a) (b % 32) (cast_signed_fits a h)) in
    ap residue (floor_quotient-shift (signed_value a) (b % 32) ∙ ap (λ (z : ℤ). int_shr z (b % 32)) (signed_value-cast a h)) ∙ residue-cast shifted small

upper_half_fits : (z : ℤ) → FitsSigned w64 z → FitsSigned w64 (int_shr z 32)
upper_half_fits (pos n) f = record { sfits = omega arith }
upper_half_fits (negsuc n) f = record { sfits = omega arith }

upper_half_below : (z : ℤ) → FitsSigned w64 z → unsigned_abs (int_shr z 32) < 2 ^ 32
upper_half_below (pos n) f = omega arith
upper_half_below (negsuc n) f = omega arith

pub upper_half_cast : (z : ℤ) → FitsSigned w64 z →
    residue (floor_quotient z (2 ^ 32)) ≡ cast_unsigned w32 (cast_signed w32 (cast_unsigned w32 (cast_signed w64 (cast_unsigned w64 (int_shr (cast_signed w64 (cast_unsigned w64 z)) 32)))))
upper_half_cast z f =
    let half = int_shr z 32 in
    sym (ap (λ (y : ℤ). cast_unsigned w32 (cast_signed w32 (cast_unsigned w32 (cast_signed w64 (cast_unsigned w64 (int_shr y 32)))))) (to_z-of_z w64 z f)
    ∙ ap (λ (y : ℤ). cast_unsigned w32 (cast_signed w32 (cast_unsigned w32 y))) (to_z-of_z w64 half (upper_half_fits z f))
    ∙ recast half (upper_half_below z f) ∙ ap residue (sym (floor_quotient-shift z 32)))

-- a product of two numbers whose product fits, as the casts leave it
product-cast : (x y : ℤ) → FitsSigned w64 x → FitsSigned w64 y → FitsSigned w64 (x *ℤ y) →
    cast_signed w64 (cast_unsigned w64 (cast_signed w64 (cast_unsigned w64 x) *ℤ cast_signed w64 (cast_unsigned w64 y))) ≡ x *ℤ y
product-cast x y f g h =
    (λ i. cast_signed w64 (cast_unsigned w64 (to_z-of_z w64 x f i *ℤ to_z-of_z w64 y g i))) ∙ to_z-of_z w64 (x *ℤ y) h

pub mulh_of_cast : (a b : ℕ) → a < 2 ^ 32 → b < 2 ^ 32 →
    mulh_of a b ≡ residue (floor_quotient (cast_signed w64 (cast_unsigned w64 (cast_signed w64 (cast_unsigned w64 (cast_signed w32 a)) *ℤ cast_signed w64 (cast_unsigned w64 (cast_signed w32 b))))) (2 ^ 32))
unfolding mulh_of
mulh_of_cast a b h k =
    let x = cast_signed w32 a in
    let y = cast_signed w32 b in
    let small : unsigned_abs x ≤ 2 ^ 31 = subst (λ (z : ℤ). unsigned_abs z ≤ 2 ^ 31) (signed_value-cast a h) (unsigned_abs-signed_value a h) in
    let small' : unsigned_abs y ≤ 2 ^ 31 = subst (λ (z : ℤ). unsigned_abs z ≤ 2 ^ 31) (signed_value-cast b k) (unsigned_abs-signed_value b k) in
    let fits : FitsSigned w64 (x *ℤ y) = product_fits x y (2 ^ 31) small small' (omega arith) in
    ap (λ (z : ℤ). residue (floor_quotient z (2 ^ 32)))
    ((λ i. signed_value-cast a h i *ℤ signed_value-cast b k i) ∙ sym (product-cast x y (widened_fits x small) (widened_fits y small') fits))

pub mulhsu_of_cast : (a b : ℕ) → a < 2 ^ 32 → b < 2 ^ 32 →
    mulhsu_of a b ≡ residue (floor_quotient (cast_signed w64 (cast_unsigned w64 (cast_signed w64 (cast_unsigned w64 (cast_signed w32 a)) *ℤ cast_signed w64 (cast_unsigned w64 (pos b))))) (2 ^ 32))
unfolding mulhsu_of
mulhsu_of_cast a b h k =
    let x = cast_signed w32 a in
    let small : unsigned_abs x ≤ 2 ^ 31 = subst (λ (z : ℤ). unsigned_abs z ≤ 2 ^ 31) (signed_value-cast a h) (unsigned_abs-signed_value a h) in
    let fits : FitsSigned w64 (x *ℤ pos b) = product_fits x (pos b) (2 ^ 32 - 1) small (omega arith) (omega arith) in
    ap (λ (z : ℤ). residue (floor_quotient z (2 ^ 32)))
    (ap (λ (z : ℤ). z *ℤ pos b) (signed_value-cast a h) ∙ sym (product-cast x (pos b) (widened_fits x small) (record { sfits = omega arith }) fits))

pub div_of_zero : (a b : ℕ) → b ≡ 0 → div_of a b ≡ 0xFFFF_FFFF
unfolding div_of
div_of_zero a b h = by_zero b _ _ h

pub div_of_cast : (a b : ℕ) → a < 2 ^ 32 → b < 2 ^ 32 → b ≢ 0 →
    div_of a b ≡ cast_unsigned w32 (cast_signed w32 (cast_unsigned w32 (int_wrapping_div w32 (cast_signed w32 a) (cast_signed w32 b))))
unfolding div_of
div_of_cast a b h k n =
    let quotient = int_div (signed_value a) (signed_value b) in
    let small : unsigned_abs quotient < 2 ^ 32 = omega (arith, unsigned_abs-quotient (signed_value a) (signed_value b), unsigned_abs-signed_value a h) in
    by_nonzero b _ _ n ∙ sym (recast_again quotient small)
    ∙ (λ i. cast_unsigned w32 (cast_signed w32 (cast_unsigned w32 (int_wrapping_div w32 (signed_value-cast a h i) (signed_value-cast b k i)))))

pub rem_of_zero : (a b : ℕ) → b ≡ 0 → rem_of a b ≡ a
unfolding rem_of
rem_of_zero a b h = by_zero b _ _ h

pub rem_of_cast : (a b : ℕ) → a < 2 ^ 32 → b < 2 ^ 32 → b ≢ 0 →
    rem_of a b ≡ cast_unsigned w32 (int_rem (cast_signed w32 a) (cast_signed w32 b))
unfolding rem_of
rem_of_cast a b h k n =
    by_nonzero b _ _ n ∙ (λ i. residue (int_rem (signed_value-cast a h i) (signed_value-cast b k i)))
    ∙ residue-cast _ (unsigned_abs_below _ (remainder_fits (cast_signed w32 a) (cast_signed w32 b) (cast_signed_fits a h)))

-- each operation's own, with the laws of the casts that its code needs
pub ruleset comparisons = (lts_of_cast, to_z-of_z, of_z-to_z)

pub ruleset shifts = (srs_of_cast, to_z-of_z, of_z-to_z)

pub ruleset products = (mulh_of_cast, mulhsu_of_cast, of_z-to_z)

pub ruleset remainders = (rem_of_zero, rem_of_cast, to_z-of_z, of_z-to_z)
