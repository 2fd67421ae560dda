-- How many brackets are open at once in a text.
use Rattle.std.specs.Prelude.{ℕ, ◌+◌, ◌-◌, max, ◌==◌, ◌||◌, List, [], ◌∷◌, if◌then◌else◌}
use Rattle.lb_syntax.specs.Names.{Text}
use Rattle.lb_syntax.specs.Tree.{Procedure}
use Rattle.lb_syntax.specs.Printing.{program_text}

-- the most brackets that a text may have open at once
abbrev pub most_brackets : ℕ
most_brackets = 64

-- the brackets `(` and `{` that are open behind a byte, where n are open before it
abbrev pub open_after : ℕ → ℕ → ℕ
open_after n b = if b == 40 || b == 123 then n + 1 else (if b == 41 || b == 125 then n - 1 else n)

-- the most brackets open at once in a text without comments, where n are open before it
abbrev pub most_open : ℕ → Text → ℕ
most_open n [] = n
most_open n (b ∷ text) = max n (most_open (open_after n b) text)

-- the most brackets open at once in the printing of a program
abbrev pub brackets : List Procedure → ℕ
brackets p = most_open 0 (program_text p)
