-- What stands in the source's commands, and how often: the numbers that bound those of flat code.
use Rattle.std.specs.Prelude.{ℕ, ◌+◌, ◌*◌, ◌≤◌, max, List, length, map, sum, All}
use Rattle.lb_syntax.specs.Tree.{Term, Number, Variable, Loaded, Operation, Procedure}
use Rattle.lb_syntax.specs.Tree.{Command, Skips, Sets, Unsets, Stores, Allocates, Chooses, Repeats, Calls, Interacts, Ends, Then}
use Rattle.lb_syntax.specs.Needs.{greatest_depth, variables}

-- the loads of an expression
abbrev pub term_loads : Term → ℕ
term_loads (Number n) = 0
term_loads (Variable x) = 0
term_loads (Loaded w a) = term_loads a + 1
term_loads (Operation op l r) = term_loads l + term_loads r

-- the loads of a command or a block
abbrev pub source_loads : Command → ℕ
source_loads Skips = 0
source_loads (Sets x e) = term_loads e
source_loads (Unsets x) = 0
source_loads (Stores w a e) = term_loads a + term_loads e
source_loads (Allocates n x b) = source_loads b
source_loads (Chooses e b d) = term_loads e + (source_loads b + source_loads d)
source_loads (Repeats e b) = term_loads e + source_loads b
source_loads (Calls xs f es) = sum (map term_loads es)
source_loads (Interacts xs k es) = sum (map term_loads es)
source_loads Ends = 0
source_loads (Then c d) = source_loads c + source_loads d

-- its stores
abbrev pub source_stores : Command → ℕ
source_stores (Stores w a e) = 1
source_stores (Allocates n x b) = source_stores b
source_stores (Chooses e b d) = source_stores b + source_stores d
source_stores (Repeats e b) = source_stores b
source_stores (Then c d) = source_stores c + source_stores d
source_stores _ = 0

-- its accesses of devices
abbrev pub source_accesses : Command → ℕ
source_accesses (Interacts xs k es) = 1
source_accesses (Allocates n x b) = source_accesses b
source_accesses (Chooses e b d) = source_accesses b + source_accesses d
source_accesses (Repeats e b) = source_accesses b
source_accesses (Then c d) = source_accesses c + source_accesses d
source_accesses _ = 0

-- the arguments of its calls and accesses
abbrev pub source_arguments : Command → ℕ
source_arguments (Calls xs f es) = length es
source_arguments (Interacts xs k es) = length es
source_arguments (Allocates n x b) = source_arguments b
source_arguments (Chooses e b d) = source_arguments b + source_arguments d
source_arguments (Repeats e b) = source_arguments b
source_arguments (Then c d) = source_arguments c + source_arguments d
source_arguments _ = 0

-- their targets
abbrev pub source_targets : Command → ℕ
source_targets (Calls xs f es) = length xs
source_targets (Interacts xs k es) = length xs
source_targets (Allocates n x b) = source_targets b
source_targets (Chooses e b d) = source_targets b + source_targets d
source_targets (Repeats e b) = source_targets b
source_targets (Then c d) = source_targets c + source_targets d
source_targets _ = 0

-- the greatest number of arguments of one call or access, where a store counts as one with two
abbrev pub greatest_arguments : Command → ℕ
greatest_arguments (Stores w a e) = 2
greatest_arguments (Allocates n x b) = greatest_arguments b
greatest_arguments (Chooses e b d) = max (greatest_arguments b) (greatest_arguments d)
greatest_arguments (Repeats e b) = greatest_arguments b
greatest_arguments (Calls xs f es) = length es
greatest_arguments (Interacts xs k es) = length es
greatest_arguments (Then c d) = max (greatest_arguments c) (greatest_arguments d)
greatest_arguments _ = 0

-- the words of code that may be loads or stores, of a function
abbrev pub source_memory_words : Procedure → ℕ
source_memory_words f =
    80 + 4 * length f.params + 4 * length f.results + source_loads f.body + source_stores f.body + source_accesses f.body
    + 4 * source_arguments f.body + 4 * source_targets f.body

-- and of a program
abbrev pub source_accesses_need : List Procedure → ℕ
source_accesses_need p = 16 + sum (map source_memory_words p)

-- a program whose functions have few variables, and need few temporaries
abbrev pub IsSmall : List Procedure → Type 0
IsSmall p = All (λ f. variables f + greatest_depth f.body + greatest_arguments f.body ≤ 8) p
