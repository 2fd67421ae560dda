-- What a printed program is.
use Rattle.std.specs.Prelude.{◌≡◌, ◌≤◌, List}
use Rattle.lb_syntax.specs.Names.{Text}
use Rattle.lb_syntax.specs.Tree.{Procedure}
use Rattle.lb_syntax.specs.Brackets.{brackets, most_brackets}
use Rattle.lb_spelling.specs.Grammar.{IsText}
use Rattle.lb_spelling.specs.Places.{IsAccepted}

-- the text is accepted as that of the program, where nowhere in the program too many brackets are open
abbrev pub AcceptedIfShallow : List Procedure → Text → Type 0
AcceptedIfShallow p text = brackets p ≤ most_brackets → IsAccepted p text

-- the text is that of no other program
abbrev pub IsTextOfNoOther : List Procedure → Text → Type 0
IsTextOfNoOther p text = (q : List Procedure) → IsText q text → q ≡ p
