-- Immediates: from the bits of a word to the number, and back.
use Rattle.std.proofs.Common.{◌≡◌, ℕ, ◌%◌, ◌^◌, ◌<◌, arith}
use Rattle.std.proofs.lemmas.Int.{ints}
use Rattle.std.proofs.lemmas.Bool.Decides.{nat_tests}
use Rattle.std.specs.Prelude.{ℤ, pos, negsuc}
use Rattle.lb_rv.specs.Formats.{immediate_word, IsSignedOf}
use Rattle.lb_rv.specs.Decoding.{sign_extended}

-- ---- a number of 12, 13 or 21 bits, as it is signed

pub signed_range_12 : (n : ℕ) → n < 2 ^ 12 → IsSignedOf 12 (sign_extended 12 n)
signed_range_12 n h = grind (arith, ints, nat_tests)

pub signed_range_13 : (n : ℕ) → n < 2 ^ 13 → IsSignedOf 13 (sign_extended 13 n)
signed_range_13 n h = grind (arith, ints, nat_tests)

pub signed_range_21 : (n : ℕ) → n < 2 ^ 21 → IsSignedOf 21 (sign_extended 21 n)
signed_range_21 n h = grind (arith, ints, nat_tests)

-- its low bits are the number

pub signed_word_12 : (n : ℕ) → n < 2 ^ 12 → immediate_word (sign_extended 12 n) % 2 ^ 12 ≡ n
signed_word_12 n h = grind (arith, ints, nat_tests)

pub signed_word_13 : (n : ℕ) → n < 2 ^ 13 → immediate_word (sign_extended 13 n) % 2 ^ 13 ≡ n
signed_word_13 n h = grind (arith, ints, nat_tests)

pub signed_word_21 : (n : ℕ) → n < 2 ^ 21 → immediate_word (sign_extended 21 n) % 2 ^ 21 ≡ n
signed_word_21 n h = grind (arith, ints, nat_tests)

-- ---- a signed number in range is the one of its low bits

low_part : (k n : ℕ) → n < k → n % k ≡ n
low_part k n h = grind arith

pub signed_again_12 : (z : ℤ) → IsSignedOf 12 z → sign_extended 12 (immediate_word z % 2 ^ 12) ≡ z
signed_again_12 (pos n) h = grind (arith, ints, nat_tests)
signed_again_12 (negsuc n) h = grind (arith, ints, nat_tests)

pub signed_again_13 : (z : ℤ) → IsSignedOf 13 z → sign_extended 13 (immediate_word z % 2 ^ 13) ≡ z
signed_again_13 (pos n) h = grind (arith, ints, nat_tests)
signed_again_13 (negsuc n) h = grind (arith, ints, nat_tests)

pub signed_again_21 : (z : ℤ) → IsSignedOf 21 z → sign_extended 21 (immediate_word z % 2 ^ 21) ≡ z
signed_again_21 (pos n) h = grind (arith, ints, nat_tests)
signed_again_21 (negsuc n) h = grind (arith, ints, nat_tests)
