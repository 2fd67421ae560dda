-- Numbers in hexadecimal, with digits of either case.
use Rattle.std.specs.Prelude.{◌≡◌, ℕ, ◌/◌, ◌%◌, ◌^◌, ◌<◌, List, [], ◌∷◌, map, All}
use Rattle.std.specs.List.{flat_map}
use Rattle.std.specs.Char.{digit_char, to_ascii_lowercase}
use Rattle.lb_trace.specs.Hex.{hex_word}

-- a text with its letters in lower case
abbrev pub lowered : List ℕ → List ℕ
lowered = map to_ascii_lowercase

-- the text is a word's eight digits
pub record SpellsWord (text : List ℕ) (word : ℕ) : Type 0 where
  pub fits : word < 2 ^ 32
  pub digits : lowered text ≡ hex_word word

-- a byte's two digits in lower case, the higher first
abbrev pub hex_byte : ℕ → List ℕ
hex_byte b = digit_char (b / 16) ∷ digit_char (b % 16) ∷ []

-- the text is the bytes' digits, two for each byte
pub record SpellsBytes (text : List ℕ) (bytes : List ℕ) : Type 0 where
  pub fit : All (λ b. b < 256) bytes
  pub digits : lowered text ≡ flat_map hex_byte bytes
