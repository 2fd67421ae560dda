-- Words in hexadecimal.
use Rattle.std.specs.Prelude.{ℕ, ◌/◌, ◌%◌, ◌^◌, List, [], ◌∷◌, map}
use Rattle.std.specs.Char.{digit_char}

-- a word as eight hexadecimal digits in lower case, the highest first
abbrev pub hex_word : ℕ → List ℕ
hex_word n =
    map digit_char (
    (n / 16 ^ 7 % 16) ∷ (n / 16 ^ 6 % 16) ∷ (n / 16 ^ 5 % 16) ∷ (n / 16 ^ 4 % 16)
    ∷ (n / 16 ^ 3 % 16) ∷ (n / 16 ^ 2 % 16) ∷ (n / 16 % 16) ∷ (n % 16) ∷ []
    )
