-- What commands are added.
use Rattle.std.specs.Prelude.{◌≡◌, ◌++◌, List, map}
use Rattle.lb_syntax.specs.Tree.{Command, command_of}
use Rattle.lb_syntax.specs.declared.tree.Cmd.{Cmd}

-- commands were added behind others
abbrev pub AreAdded : List Cmd → List Cmd → List Command → Type 0
AreAdded old new added = map command_of new ≡ map command_of old ++ added
