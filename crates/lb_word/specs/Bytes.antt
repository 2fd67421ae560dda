-- The four bytes of a word, the least significant first.
use Rattle.std.specs.Prelude.{ℕ, ◌+◌, ◌*◌, ◌/◌, ◌%◌, List, [], ◌∷◌, slice_index}

-- the word of four bytes
abbrev pub word_of_bytes : List ℕ → ℕ
word_of_bytes b = slice_index b 0 + 256 * slice_index b 1 + 65536 * slice_index b 2 + 16777216 * slice_index b 3

-- the four bytes of a word
abbrev pub bytes_of_word : ℕ → List ℕ
bytes_of_word w = w % 256 ∷ w / 256 % 256 ∷ w / 65536 % 256 ∷ w / 16777216 % 256 ∷ []
