-- The lines of a text.
use Rattle.std.specs.Prelude.{ℕ, Bool, not, ◌==◌, List, length, map, filter}
use Rattle.std.specs.List.{slice_split, enumerate_from}
use Rattle.std.specs.Str.Lines.{strip_carriage_return}

-- The pieces between a text's line feeds, each without the one carriage return at its end. Behind a
-- line feed at the text's end there is an empty piece.
abbrev pub pieces_of : List ℕ → List (List ℕ)
pieces_of text = map strip_carriage_return (slice_split (λ b. b == 10) text)

-- whether a line isn't empty
abbrev pub has_bytes : ℕ × List ℕ → Bool
has_bytes line = not (length line.1 == 0)

-- the lines that aren't empty, with their numbers, if the text begins at line `first`
abbrev pub lines_of : ℕ → List ℕ → List (ℕ × List ℕ)
lines_of first text = filter has_bytes (enumerate_from first (pieces_of text))
