-- The words of bytes, and the bytes of words.
use Rattle.std.proofs.Common.{◌≡◌, ℕ, suc, ◌*◌, ◌<◌, ◌≤◌, List, [], ◌∷◌, ◌++◌, length, get_or, take, drop, refl, sym, ap, ◌∙◌, arith}
use Rattle.std.specs.List.{flat_map}
use Rattle.lb_word.specs.Bytes.{bytes_of_word, word_of_bytes}
use Rattle.lb_word.proofs.ByteLemmas.{bytes_of_word-word_of_bytes}
use Rattle.lb_image.specs.Fields.{whole_words}

pub whole_words_split : (bytes : List ℕ) → 4 ≤ length bytes → whole_words bytes ≡ word_of_bytes (take 4 bytes) ∷ whole_words (drop 4 bytes)
whole_words_split [] h = absurd (omega (arith, h))
whole_words_split (p ∷ []) h = absurd (omega (arith, h))
whole_words_split (p ∷ q ∷ []) h = absurd (omega (arith, h))
whole_words_split (p ∷ q ∷ r ∷ []) h = absurd (omega (arith, h))
whole_words_split (p ∷ q ∷ r ∷ s ∷ bytes) h = refl

pub whole_words_short : (bytes : List ℕ) → length bytes < 4 → whole_words bytes ≡ []
whole_words_short [] h = refl
whole_words_short (p ∷ []) h = refl
whole_words_short (p ∷ q ∷ []) h = refl
whole_words_short (p ∷ q ∷ r ∷ []) h = refl
whole_words_short (p ∷ q ∷ r ∷ s ∷ bytes) h = absurd (omega (arith, h))

-- bytes that are whole words are those of their words
pub bytes_of_whole_words : (bytes : List ℕ) → ((i : ℕ) → get_or bytes i 0 < 256) → length bytes ≡ 4 * length (whole_words bytes) →
    bytes ≡ flat_map bytes_of_word (whole_words bytes)
bytes_of_whole_words [] fits e = refl
bytes_of_whole_words (p ∷ []) fits e = absurd (omega (arith, e))
bytes_of_whole_words (p ∷ q ∷ []) fits e = absurd (omega (arith, e))
bytes_of_whole_words (p ∷ q ∷ r ∷ []) fits e = absurd (omega (arith, e))
bytes_of_whole_words (p ∷ q ∷ r ∷ s ∷ bytes) fits e =
    let rest = bytes_of_whole_words bytes (λ i. fits (suc (suc (suc (suc i))))) (omega (arith, e)) in
    let first = bytes_of_word-word_of_bytes p q r s (fits 0) (fits 1) (fits 2) (fits 3) in
    ap (λ (t : List ℕ). p ∷ q ∷ r ∷ s ∷ t) rest ∙ ap (λ (t : List ℕ). t ++ flat_map bytes_of_word (whole_words bytes)) (sym first)
