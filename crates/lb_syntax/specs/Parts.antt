-- How many functions, commands and expression nodes a program has.
use Rattle.std.specs.Prelude.{ℕ, ◌+◌, List, map, sum}
use Rattle.lb_syntax.specs.Tree.{Procedure}
use Rattle.lb_syntax.specs.Tree.{Command, Skips, Sets, Unsets, Stores, Allocates, Chooses, Repeats, Calls, Interacts, Ends, Then}
use Rattle.lb_syntax.specs.Needs.{nodes}

-- the commands and expression nodes of a command or a block
abbrev pub command_parts : Command → ℕ
command_parts Skips = 1
command_parts (Sets x e) = 1 + nodes e
command_parts (Unsets x) = 1
command_parts (Stores w a e) = 1 + nodes a + nodes e
command_parts (Allocates n x b) = 1 + command_parts b
command_parts (Chooses e b d) = 1 + nodes e + command_parts b + command_parts d
command_parts (Repeats e b) = 1 + nodes e + command_parts b
command_parts (Calls xs f es) = 1 + sum (map nodes es)
command_parts (Interacts xs k es) = 1 + sum (map nodes es)
command_parts Ends = 0
command_parts (Then c b) = command_parts c + command_parts b

-- a function and what stands in it
abbrev pub procedure_parts : Procedure → ℕ
procedure_parts f = 1 + command_parts f.body

-- the functions, commands and expression nodes of a program together
abbrev pub program_parts : List Procedure → ℕ
program_parts p = sum (map procedure_parts p)
