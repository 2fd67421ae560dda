-- The sections of an input.
use Rattle.std.specs.Prelude.{◌≡◌, ℕ, ◌+◌, ◌-◌, ◌==◌, Bool, cond, List, [], ◌∷◌, map, filter, codes, Some, slice_get, unwrap_or}
use Rattle.std.specs.List.{concat, enumerate_from, onto_first, slice_split, zip}
use Rattle.std.specs.Str.{bytes_eq}
use Rattle.std.specs.Io.BufRead.{strip_last}
use Rattle.lb_sections.specs.declared.cut.Section.{Section}
use Rattle.lb_sections.specs.declared.cut.SectionsError.{SectionsError}
use Rattle.lb_sections.specs.declared.cut.SectionsError.TheVariants.{TooMany, Memory}

abbrev pub Text : Type 0
Text = List ℕ

-- the lines of a text, each with the line feed at its end; the last may have none
abbrev pub lines : Text → List Text
lines [] = []
lines (b ∷ bs) = cond (b == 10) ((b ∷ []) ∷ lines bs) (onto_first b (lines bs))

-- a mark is a line that is exactly `%%`, the line feed at its end and one carriage return before it
-- aside
abbrev pub is_mark : Text → Bool
is_mark line = bytes_eq (strip_last 13 (strip_last 10 line)) (codes "%%")

-- the numbers of the marks among the lines, the first of which has this number
abbrev pub marks_from : ℕ → List Text → List ℕ
marks_from first all = map (λ line. line.0) (filter (λ line. is_mark line.1) (enumerate_from first all))

-- the numbers of the lines of an input that are marks
abbrev pub marks : Text → List ℕ
marks input = marks_from 1 (lines input)

-- a section: the number of its first line, and its bytes
pub record Part : Type 0 where
  pub line : ℕ
  pub text : Text

abbrev pub part : ℕ × Text → Part
part numbered = record { line = numbered.0; text = numbered.1 }

-- The sections of the lines, the first of which has this number: the lines between the marks, joined.
-- The first section begins at the first line, each other at the line behind a mark.
abbrev pub sections_from : ℕ → List Text → List Part
sections_from first all =
    map part (zip (first ∷ map (λ mark. mark + 1) (marks_from first all))
    (map concat (slice_split is_mark all)))

-- the sections of an input
abbrev pub sections : Text → List Part
sections input = sections_from 1 (lines input)

-- the section at this place of a list; one that is missing is empty
abbrev pub part_at : ℕ → List Part → Part
part_at place list = unwrap_or (slice_get list place) (record { line = 1; text = [] })

-- the section at this place of an input
abbrev pub section : ℕ → Text → Part
section place input = part_at place (sections input)

-- there are more than the most sections, and the first mark too many is the line of this number
abbrev pub IsFirstTooMany : ℕ → Text → ℕ → Type 0
IsFirstTooMany most input line = slice_get (marks input) (most - 1) ≡ Some line

-- what an error says of the input
abbrev pub Explains : ℕ → Text → SectionsError → Type 0
Explains most input (TooMany line) = IsFirstTooMany most input line
Explains most input Memory = Unit {0}

-- what is seen of a section
abbrev pub seen : Section → Part
seen section = record { line = section.line; text = section.text.now }
