-- How large a program is.
use Rattle.std.specs.Prelude.{ℕ, ◌+◌, List, length, map, sum}
use Rattle.lb_syntax.specs.Tree.{Procedure}
use Rattle.lb_syntax.specs.Tree.{Command, Allocates, Chooses, Repeats, Calls, Interacts, Then}
use Rattle.lb_syntax.specs.Parts.{command_parts}

-- the targets of the calls and accesses of a command or a block
abbrev pub targets : Command → ℕ
targets (Calls xs f es) = length xs
targets (Interacts xs k es) = length xs
targets (Allocates n x b) = targets b
targets (Chooses e b d) = targets b + targets d
targets (Repeats e b) = targets b
targets (Then c b) = targets c + targets b
targets _ = 0

-- the commands, expression nodes and targets of a command or a block
abbrev pub body_parts : Command → ℕ
body_parts c = command_parts c + targets c

-- a function, its parameters and results, and what stands in it
abbrev pub function_parts : Procedure → ℕ
function_parts f = 1 + length f.params + length f.results + body_parts f.body

-- the functions, parameters, results, targets, commands and expression nodes of a program together
abbrev pub parts : List Procedure → ℕ
parts p = sum (map function_parts p)
