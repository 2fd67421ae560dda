-- A word and its bytes determine each other.
use Rattle.std.proofs.Common.{◌≡◌, ℕ, ◌+◌, ◌*◌, ◌/◌, ◌%◌, ◌^◌, ◌<◌, [], ◌∷◌, arith}
use Rattle.lb_word.specs.Bytes.{bytes_of_word, word_of_bytes}

pub word_of_bytes-bytes_of_word : (w : ℕ) → w < 2 ^ 32 → word_of_bytes (bytes_of_word w) ≡ w
word_of_bytes-bytes_of_word w h = omega arith

-- the four bytes of a word that is made of four bytes
pub bytes_of_word-word_of_bytes : (p q r s : ℕ) → p < 256 → q < 256 → r < 256 → s < 256 →
    bytes_of_word (word_of_bytes (p ∷ q ∷ r ∷ s ∷ [])) ≡ p ∷ q ∷ r ∷ s ∷ []
bytes_of_word-word_of_bytes p q r s hp hq hr hs =
    let w = p + 256 * q + 65536 * r + 16777216 * s in
    let first : w % 256 ≡ p = omega arith in
    let second : w / 256 % 256 ≡ q = omega arith in
    let third : w / 65536 % 256 ≡ r = omega arith in
    let fourth : w / 16777216 % 256 ≡ s = omega arith in
    λ i. first i ∷ second i ∷ third i ∷ fourth i ∷ []

pub word_of_bytes_below : (p q r s : ℕ) → p < 256 → q < 256 → r < 256 → s < 256 → word_of_bytes (p ∷ q ∷ r ∷ s ∷ []) < 2 ^ 32
word_of_bytes_below p q r s hp hq hr hs = omega arith
