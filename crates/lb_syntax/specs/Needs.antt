-- How many words of code and bytes of a frame a program asks for, counted on its tree.
use Rattle.std.specs.Prelude.{ℕ, ◌+◌, ◌*◌, ◌≤◌, nat_le, max, List, [], ◌∷◌, ◌++◌, length, map, sum, if◌then◌else◌, All}
use Rattle.lb_syntax.specs.declared.limits.TheConstants.{MOST_WORDS, MOST_FRAME, NEAR_FRAME}
use Rattle.lb_syntax.specs.Names.{Text, is_among}
use Rattle.lb_syntax.specs.Tree.{Term, Number, Variable, Loaded, Operation, Procedure}
use Rattle.lb_syntax.specs.Tree.{Command, Skips, Sets, Unsets, Stores, Allocates, Chooses, Repeats, Calls, Interacts, Ends, Then}

-- the literals, variables, loads and operations of an expression
abbrev pub nodes : Term → ℕ
nodes (Number n) = 1
nodes (Variable x) = 1
nodes (Loaded w a) = nodes a + 1
nodes (Operation op l r) = nodes l + nodes r + 1

-- how deep an expression nests
abbrev pub depth : Term → ℕ
depth (Number n) = 1
depth (Variable x) = 1
depth (Loaded w a) = depth a + 1
depth (Operation op l r) = max (depth l) (depth r) + 1

-- the words of an expression
abbrev pub term_words : Term → ℕ
term_words e = 6 * nodes e

-- the words of several expressions
abbrev pub terms_words : List Term → ℕ
terms_words es = sum (map term_words es)

-- the words of a command or a block
abbrev pub words : Command → ℕ
words Skips = 8
words (Sets x e) = 8 + term_words e
words (Unsets x) = 8
words (Stores w a e) = 8 + term_words a + term_words e
words (Allocates n x b) = 8 + words b
words (Chooses e b d) = 8 + term_words e + words b + words d
words (Repeats e b) = 8 + term_words e + words b
words (Calls xs f es) = 8 + terms_words es + 4 * length es + 4 * length xs
words (Interacts xs k es) = 8 + terms_words es + 4 * length es + 4 * length xs
words Ends = 0
words (Then c b) = words c + words b

-- the words of a function
abbrev pub procedure_words : Procedure → ℕ
procedure_words f = 80 + 4 * length f.params + 4 * length f.results + words f.body

-- the greatest of these numbers, 0 where there is none
abbrev pub greatest : List ℕ → ℕ
greatest [] = 0
greatest (n ∷ ns) = max n (greatest ns)

-- the greatest depth of an expression in a command or a block, 0 where there is none
abbrev pub greatest_depth : Command → ℕ
greatest_depth Skips = 0
greatest_depth (Sets x e) = depth e
greatest_depth (Unsets x) = 0
greatest_depth (Stores w a e) = max (depth a) (depth e)
greatest_depth (Allocates n x b) = greatest_depth b
greatest_depth (Chooses e b d) = max (depth e) (max (greatest_depth b) (greatest_depth d))
greatest_depth (Repeats e b) = max (depth e) (greatest_depth b)
greatest_depth (Calls xs f es) = greatest (map depth es)
greatest_depth (Interacts xs k es) = greatest (map depth es)
greatest_depth Ends = 0
greatest_depth (Then c b) = max (greatest_depth c) (greatest_depth b)

-- the variables that an expression names, as often as it names them
abbrev pub term_names : Term → List Text
term_names (Number n) = []
term_names (Variable x) = x ∷ []
term_names (Loaded w a) = term_names a
term_names (Operation op l r) = term_names l ++ term_names r

-- the variables that several expressions name, as often as they name them
abbrev pub terms_names : List Term → List Text
terms_names [] = []
terms_names (e ∷ es) = term_names e ++ terms_names es

-- the variables that a command or a block names, as often as it names them
abbrev pub command_names : Command → List Text
command_names Skips = []
command_names (Sets x e) = x ∷ term_names e
command_names (Unsets x) = x ∷ []
command_names (Stores w a e) = term_names a ++ term_names e
command_names (Allocates n x b) = x ∷ command_names b
command_names (Chooses e b d) = term_names e ++ (command_names b ++ command_names d)
command_names (Repeats e b) = term_names e ++ command_names b
command_names (Calls xs f es) = xs ++ terms_names es
command_names (Interacts xs k es) = xs ++ terms_names es
command_names Ends = []
command_names (Then c b) = command_names c ++ command_names b

-- the variables that a function names, its parameters and results among them
abbrev pub procedure_names : Procedure → List Text
procedure_names f = f.params ++ (f.results ++ command_names f.body)

-- how many different names a list has: each counts where it stands last
abbrev pub distinct : List Text → ℕ
distinct [] = 0
distinct (x ∷ xs) = if is_among xs x then distinct xs else distinct xs + 1

-- how many variables a function has
abbrev pub variables : Procedure → ℕ
variables f = distinct (procedure_names f)

-- the sizes of the stackalloc blocks of a command or a block, in text order
abbrev pub sites : Command → List ℕ
sites (Allocates n x b) = n ∷ sites b
sites (Chooses e b d) = sites b ++ sites d
sites (Repeats e b) = sites b
sites (Then c b) = sites c ++ sites b
sites _ = []

-- the bytes of a function's frame: its blocks, its variables, the operands of its deepest expression, and 34 words
abbrev pub frame_need : Procedure → ℕ
frame_need f = sum (sites f.body) + 4 * (variables f + greatest_depth f.body + 34)

-- by how much a function's words are multiplied: a slot of a larger frame may lie further from the stack pointer than an
-- immediate reaches, and then takes more instructions
abbrev pub far_factor : Procedure → ℕ
far_factor f = if nat_le (frame_need f) NEAR_FRAME then 1 else 2

-- the words of a program, at 4 bytes each
abbrev pub code_need : List Procedure → ℕ
code_need p = 16 + sum (map (λ f. far_factor f * procedure_words f) p)

-- no need but the stack's passes its limit
pub record IsWithinLimits (p : List Procedure) : Type 0 where
  pub code : code_need p ≤ MOST_WORDS
  pub frames : All (λ f. frame_need f ≤ MOST_FRAME) p
