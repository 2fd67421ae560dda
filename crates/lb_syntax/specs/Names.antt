-- Which bytes are a name.
use Rattle.std.specs.Prelude.{◌≡◌, ℕ, nat_le, Bool, false, ◌&&◌, ◌||◌, ◌==◌, not, List, [], ◌∷◌, length, IsTrue, codes}
use Rattle.std.specs.List.{list_any, list_all}
use Rattle.std.specs.Char.{is_ascii_alphabetic, is_ascii_alphanumeric}
use Rattle.std.specs.Str.{bytes_eq}

-- a name, or any text, is the list of its bytes
abbrev pub Text : Type 0
Text = List ℕ

-- a letter or an underscore
abbrev pub is_name_start : ℕ → Bool
is_name_start b = is_ascii_alphabetic b || b == 95

-- a letter, a digit or an underscore
abbrev pub is_name_byte : ℕ → Bool
is_name_byte b = is_ascii_alphanumeric b || b == 95

-- the words that are no names
abbrev pub reserved_words : List Text
reserved_words =
    codes "fn" ∷ codes "if" ∷ codes "else" ∷ codes "while" ∷ codes "skip" ∷ codes "unset" ∷ codes "stackalloc" ∷ codes "as"
    ∷ codes "load1" ∷ codes "load2" ∷ codes "load4" ∷ codes "store1" ∷ codes "store2" ∷ codes "store4" ∷ codes "MMIOREAD" ∷ codes "MMIOWRITE" ∷ []

-- the bytes are one of these words
abbrev pub is_among : List Text → Text → Bool
is_among words bytes = list_any (λ word. bytes_eq word bytes) words

-- no name comes again behind its place
abbrev pub AreDistinct : List Text → Type 0
AreDistinct [] = Unit {0}
AreDistinct (x ∷ xs) = (is_among xs x ≡ false) × AreDistinct xs

-- the bytes are a reserved word
unfoldable pub is_reserved : Text → Bool
is_reserved bytes = is_among reserved_words bytes

-- the first byte may begin a name
abbrev pub starts_name : Text → Bool
starts_name [] = false
starts_name (b ∷ bytes) = is_name_start b

-- 1 to 32 letters, digits and underscores, the first no digit, and together no reserved word
abbrev pub is_name : Text → Bool
is_name bytes = nat_le (length bytes) 32 && not (is_reserved bytes) && starts_name bytes && list_all is_name_byte bytes

abbrev pub IsName : Text → Type 0
IsName bytes = IsTrue (is_name bytes)
