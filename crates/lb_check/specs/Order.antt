-- Text order.
use Rattle.std.specs.Prelude.{List, [], ◌∷◌, ◌++◌, if◌then◌else◌}
use Rattle.lb_syntax.specs.Names.{Text, is_among}
use Rattle.lb_syntax.specs.Tree.{Command, Allocates, Chooses, Repeats, Ends, Then}

-- the commands of a command or a block in text order: a command comes before those that stand in it
abbrev pub commands : Command → List Command
commands (Allocates n x b) = Allocates n x b ∷ commands b
commands (Chooses e b d) = Chooses e b d ∷ (commands b ++ commands d)
commands (Repeats e b) = Repeats e b ∷ commands b
commands Ends = []
commands (Then c b) = commands c ++ commands b
commands c = c ∷ []

-- those of the second names that come earlier too, among them or in the first names
abbrev pub repeated_after : List Text → List Text → List Text
repeated_after earlier [] = []
repeated_after earlier (x ∷ xs) =
    if is_among earlier x then x ∷ repeated_after (x ∷ earlier) xs else repeated_after (x ∷ earlier) xs

-- the names that come earlier in the list too
abbrev pub repeated : List Text → List Text
repeated xs = repeated_after [] xs
