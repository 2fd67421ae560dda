-- How deep the brackets of a printing nest, counted on the tree. Only contracts of private functions cite it.
use Rattle.std.specs.Prelude.{ℕ, ◌+◌, max, List, map}
use Rattle.lb_syntax.specs.Tree.{Term, Number, Variable, Loaded, Operation, Procedure}
use Rattle.lb_syntax.specs.Tree.{Command, Skips, Sets, Unsets, Stores, Allocates, Chooses, Repeats, Calls, Interacts, Ends, Then}
use Rattle.lb_syntax.specs.Needs.{greatest}

-- the brackets open at once in an expression
abbrev pub term_nest : Term → ℕ
term_nest (Number n) = 0
term_nest (Variable x) = 0
term_nest (Loaded w a) = term_nest a + 1
term_nest (Operation op l r) = max (term_nest l) (term_nest r) + 1

-- the brackets open at once in several expressions
abbrev pub terms_nest : List Term → ℕ
terms_nest es = greatest (map term_nest es)

-- the brackets open at once in a command or a block, those round it aside
abbrev pub command_nest : Command → ℕ
command_nest Skips = 0
command_nest (Sets x e) = term_nest e
command_nest (Unsets x) = 0
command_nest (Stores w a e) = max (term_nest a) (term_nest e) + 1
command_nest (Allocates n x b) = command_nest b + 1
command_nest (Chooses e b d) = max (term_nest e) (max (command_nest b) (command_nest d) + 1)
command_nest (Repeats e b) = max (term_nest e) (command_nest b + 1)
command_nest (Calls xs f es) = terms_nest es + 1
command_nest (Interacts xs k es) = terms_nest es + 1
command_nest Ends = 0
command_nest (Then c b) = max (command_nest c) (command_nest b)

-- the brackets open at once in a function
abbrev pub procedure_nest : Procedure → ℕ
procedure_nest f = command_nest f.body + 1

-- the brackets open at once in a program
abbrev pub program_nest : List Procedure → ℕ
program_nest p = greatest (map procedure_nest p)
