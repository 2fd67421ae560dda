-- A word and the answers that make it.
use Rattle.std.proofs.Common.{◌≡◌, ℕ, ◌+◌, ◌*◌, ◌/◌, ◌%◌, ◌^◌, ◌<◌, IsTrue, [], ◌∷◌, ap, ◌∙◌, arith}
use Rattle.std.proofs.lemmas.Bool.Decides.{nat_tests}
use Rattle.lb_word.specs.Bytes.{bytes_of_word, word_of_bytes}
use Rattle.lb_word.proofs.ByteLemmas.{bytes_of_word-word_of_bytes, word_of_bytes-bytes_of_word}
use Rattle.lb_grammar.specs.Grammar.{is_byte, is_word}
use Rattle.lb_grammar.specs.InternalTransferring.{pushed}

pub below_256 : (r : ℕ) → IsTrue (is_byte r) → r < 256
below_256 r h = grind (arith, nat_tests)

pub byte_test : (r : ℕ) → r < 256 → IsTrue (is_byte r)
byte_test r h = grind (arith, nat_tests)

pub below_word : (w : ℕ) → IsTrue (is_word w) → w < 2 ^ 32
below_word w h = grind (arith, nat_tests)

pub word_test : (w : ℕ) → w < 2 ^ 32 → IsTrue (is_word w)
word_test w h = grind (arith, nat_tests)

pub pushed_below : (w r : ℕ) → w < 2 ^ 32 → r < 256 → pushed w r < 2 ^ 32
pushed_below w r h i = omega (arith, h, i)

-- four answers push out all that was there before
pub four_pushed : (w a b c d : ℕ) → w < 2 ^ 32 → a < 256 → b < 256 → c < 256 → d < 256 → pushed (pushed (pushed (pushed w a) b) c) d ≡ word_of_bytes (a ∷ b ∷ c ∷ d ∷ [])
four_pushed w a b c d hw ha hb hc hd =
    let w1 : ℕ = pushed w a in
    let s1 : w1 < 2 ^ 32 = pushed_below w a hw ha in
    let e1 : w1 / 16777216 ≡ a = omega (arith, hw, ha) in
    let w2 : ℕ = pushed w1 b in
    let s2 : w2 < 2 ^ 32 = pushed_below w1 b s1 hb in
    let e2 : w2 / 65536 ≡ a + 256 * b = omega (arith, e1, s1, hb) in
    let w3 : ℕ = pushed w2 c in
    let e3 : w3 / 256 ≡ a + 256 * b + 65536 * c = omega (arith, e2, s2, hc) in
    let e4 : pushed w3 d ≡ a + 256 * b + 65536 * c + 16777216 * d = omega (arith, e3) in
    e4

-- the word of four answers
pub four_answers : (w a b c d : ℕ) → w < 2 ^ 32 → a < 256 → b < 256 → c < 256 → d < 256 → bytes_of_word (pushed (pushed (pushed (pushed w a) b) c) d) ≡ a ∷ b ∷ c ∷ d ∷ []
four_answers w a b c d hw ha hb hc hd = ap bytes_of_word (four_pushed w a b c d hw ha hb hc hd) ∙ bytes_of_word-word_of_bytes a b c d ha hb hc hd

pub four_below : (w a b c d : ℕ) → w < 2 ^ 32 → a < 256 → b < 256 → c < 256 → d < 256 → pushed (pushed (pushed (pushed w a) b) c) d < 2 ^ 32
four_below w a b c d hw ha hb hc hd =
    let s1 : pushed w a < 2 ^ 32 = pushed_below w a hw ha in
    let s2 : pushed (pushed w a) b < 2 ^ 32 = pushed_below (pushed w a) b s1 hb in
    let s3 : pushed (pushed (pushed w a) b) c < 2 ^ 32 = pushed_below (pushed (pushed w a) b) c s2 hc in
    pushed_below (pushed (pushed (pushed w a) b) c) d s3 hd

-- the answers that are the bytes of a word
pub word_again : (w v : ℕ) → w < 2 ^ 32 → v < 2 ^ 32 → pushed (pushed (pushed (pushed w (v % 256)) (v / 256 % 256)) (v / 65536 % 256)) (v / 16777216 % 256) ≡ v
word_again w v hw hv =
    four_pushed w (v % 256) (v / 256 % 256) (v / 65536 % 256) (v / 16777216 % 256) hw (omega arith) (omega arith) (omega arith) (omega arith)
    ∙ word_of_bytes-bytes_of_word v hv
