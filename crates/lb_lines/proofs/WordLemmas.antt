-- A word that is read digit by digit.
use Rattle.std.proofs.Common.{◌≡◌, ℕ, zero, suc, ◌+◌, ◌*◌, ◌/◌, ◌%◌, ◌^◌, ◌<◌, ◌≤◌, List, [], ◌∷◌, ◌++◌, length, map, take, get_or, refl, sym, ap, ap₂, ◌∙◌, subst, arith, add-one, lit<}
use Rattle.std.specs.List.{All}
use Rattle.std.specs.Char.{digit_char, to_ascii_lowercase}
use Rattle.std.proofs.Math.Nat.{pow-suc, pow-le-pow_right, div-div-eq-div-mul}
use Rattle.std.proofs.lemmas.Nat.{div-mul-add}
use Rattle.std.proofs.lemmas.List.{take_more, take_all, map_push, length-map, get_or-map}
use Rattle.std.proofs.lemmas.List.Elements.{All-map, All-get_or, All-from_recursion, All-head, All-tail}
use Rattle.std.proofs.lemmas.Bool.Decides.{nat_tests}
use Rattle.lb_trace.specs.Hex.{hex_word}
use Rattle.lb_lines.specs.Digits.{lowered, SpellsWord}
use Rattle.lb_lines.specs.InternalReading.{IsDigit}

-- a number's last k digits in base 16, the highest first
abbrev pub nibbles : ℕ → ℕ → List ℕ
nibbles zero n = []
nibbles (suc k) n = nibbles k (n / 16) ++ (n % 16) ∷ []

nibbles_more : (k n : ℕ) → nibbles (k + 1) n ≡ nibbles k (n / 16) ++ (n % 16) ∷ []
nibbles_more k n = rw add-one

pub hex_word_is : (w : ℕ) → hex_word w ≡ map digit_char (nibbles 8 w)
hex_word_is w = simp div-div-eq-div-mul

-- the first i digits are the word's
pub record IsWordSoFar (digits : List ℕ) (i word : ℕ) : Type 0 where
  pub below : word < 16 ^ i
  pub same : lowered (take i digits) ≡ map digit_char (nibbles i word)

last_digit : (word d : ℕ) → d < 16 → (word * 16 + d) % 16 ≡ d
last_digit word d h = omega arith

pub word_more : (digits : List ℕ) (i word d : ℕ) → i < length digits → IsDigit (get_or digits i 0) d → IsWordSoFar digits i word
    → IsWordSoFar digits (i + 1) (word * 16 + d)
word_more digits i word d h is so = record {
  below = rw (add-one, pow-suc) (omega (arith, so.below, is.below));
  same =
      ap lowered (take_more digits i 0 h)
      ∙ map_push to_ascii_lowercase (take i digits) (get_or digits i 0)
      ∙ ap₂ (λ xs x. xs ++ x ∷ [])
      (so.same ∙ ap (λ n. map digit_char (nibbles i n)) (sym (div-mul-add word 16 d is.below)))
      (is.char ∙ ap digit_char (sym (last_digit word d is.below)))
      ∙ sym (map_push digit_char (nibbles i ((word * 16 + d) / 16)) ((word * 16 + d) % 16))
      ∙ ap (map digit_char) (sym (nibbles_more i (word * 16 + d)));
}

-- one digit more fits
pub small_word : (i word : ℕ) → i < 8 → word < 16 ^ i → word < 2 ^ 28
small_word i word h below =
    let p : 16 ^ i ≤ 16 ^ 7 = pow-le-pow_right {n = 16} (lit< tt) {i = i} {j = 7} (omega arith) in omega (arith, p)

pub word_whole : (digits : List ℕ) (n word : ℕ) → n ≡ length digits → length digits ≡ 8 → IsWordSoFar digits n word → SpellsWord digits word
word_whole digits n word e len so =
    let so8 : IsWordSoFar digits 8 word = subst (λ k. IsWordSoFar digits k word) (e ∙ len) so in
    record {
      fits = so8.below;
      digits = ap lowered (sym (take_all 8 digits (omega (arith, len)))) ∙ so8.same ∙ sym (hex_word_is word);
    }

-- a word's eight digits
abbrev pub eight_of : ℕ → List ℕ
eight_of w =
    (w / 16 ^ 7 % 16) ∷ (w / 16 ^ 6 % 16) ∷ (w / 16 ^ 5 % 16) ∷ (w / 16 ^ 4 % 16) ∷ (w / 16 ^ 3 % 16) ∷ (w / 16 ^ 2 % 16) ∷ (w / 16 % 16) ∷ (w % 16) ∷ []

-- a digit's character
pub HasValue : ℕ → Type 0
HasValue x = (d : ℕ) × (d < 16) × (x ≡ digit_char d)

has_value : (n : ℕ) → HasValue (digit_char (n % 16))
unfolding HasValue
has_value n = (n % 16, omega arith, refl)

hex_digits : (w : ℕ) → All HasValue (hex_word w)
hex_digits w =
    All-map HasValue digit_char
    (eight_of w)
    (All-from_recursion (λ y. HasValue (digit_char y))
    (eight_of w) (
      has_value (w / 16 ^ 7),
      (
        has_value (w / 16 ^ 6),
        (
          has_value (w / 16 ^ 5),
          (
            has_value (w / 16 ^ 4),
            (has_value (w / 16 ^ 3), (has_value (w / 16 ^ 2), (has_value (w / 16), (has_value w, tt)))),
          ),
        ),
      ),
    ))

-- a text in which one character is no digit is no word
pub no_digit : (digits : List ℕ) (i : ℕ) → i < length digits → ((d : ℕ) → IsDigit (get_or digits i 0) d → ⊥) → (w : ℕ) → SpellsWord digits w → ⊥
unfolding HasValue
no_digit digits i h none w s =
    let len : length digits ≡ 8 = sym (length-map digits to_ascii_lowercase) ∙ ap length s.digits in
    let v : HasValue (get_or (hex_word w) i 0) = All-get_or HasValue (hex_word w) i 0 (omega (arith, len, h)) (hex_digits w) in
    none v.0 (record {
      below = v.1;
      char = sym (get_or-map to_ascii_lowercase digits i 0 0 h) ∙ ap (λ l. get_or l i 0) s.digits ∙ v.2;
    })

lower_digit : (d : ℕ) → d < 16 → to_ascii_lowercase (digit_char d) ≡ digit_char d
lower_digit d h = grind (arith, nat_tests)

lowered_digits : (ds : List ℕ) → All (λ d. d < 16) ds → lowered (map digit_char ds) ≡ map digit_char ds
lowered_digits [] h = refl
lowered_digits (d ∷ ds) h = ap₂ (λ x xs. x ∷ xs) (lower_digit d (All-head (λ x. x < 16) d ds h)) (lowered_digits ds (All-tail (λ x. x < 16) d ds h))

low : (n : ℕ) → n % 16 < 16
low n = omega arith

pub digits_low : (w : ℕ) → All (λ d. d < 16) (eight_of w)
digits_low w = All-from_recursion (λ d. d < 16) (eight_of w)
    (low (w / 16 ^ 7), (low (w / 16 ^ 6), (low (w / 16 ^ 5), (low (w / 16 ^ 4), (low (w / 16 ^ 3), (low (w / 16 ^ 2), (low (w / 16), (low w, tt))))))))

-- what is printed spells the word
pub hex_word_spells : (w : ℕ) → w < 2 ^ 32 → SpellsWord (hex_word w) w
hex_word_spells w h = record {
  fits = h;
  digits = lowered_digits (eight_of w) (digits_low w);
}
