-- What the parts of printing write. Only contracts of private functions cite it.
use Rattle.std.specs.Prelude.{◌≡◌, ℕ, suc, List, ◌++◌, map, codes, decimal, Result, OnOk, All}
use Rattle.std.specs.Global.{Vec}
use Rattle.lb_syntax.specs.Names.{Text}
use Rattle.lb_syntax.specs.declared.tree.Width.{Width}
use Rattle.lb_syntax.specs.declared.tree.Expr.{Expr}
use Rattle.lb_syntax.specs.declared.tree.Block.{Block}
use Rattle.lb_syntax.specs.declared.tree.Function.{Function}
use Rattle.lb_syntax.specs.Tree.{Command, Stores, Allocates, Chooses, Repeats, term_of, block_of, procedure_of}
use Rattle.lb_syntax.specs.WellFormed.{IsTerm}
use Rattle.lb_syntax.specs.Printing.{width_text, term_text, listed, call_text, results_text, line, else_text, command_text, procedure_text, program_text}

-- ---- what is added

-- this stands behind the old text; want of memory tells nothing
abbrev pub Appends : {T E : Type 0} → Vec ℕ → Vec ℕ → Text → Result T E → Type 0
Appends old new more result = OnOk result (new.items ≡ old.items ++ more)

-- the same of the lines of a command or a block, with so many blocks open round it
abbrev pub Prints : {T E : Type 0} → ℕ → Vec ℕ → Vec ℕ → Command → Result T E → Type 0
Prints depth old new c result = Appends old new (command_text depth c) result

-- the same of the line of a call or an access
abbrev pub AddsCall : {T E : Type 0} → ℕ → Vec ℕ → Vec ℕ → List Text → Text → List Expr → Result T E → Type 0
AddsCall depth old new targets callee arguments result = Appends old new (line depth (call_text targets callee (map term_of arguments))) result

-- ---- expressions and commands, by their parts

-- each of them is an expression of the language
abbrev pub AreTerms : List Expr → Type 0
AreTerms exprs = All IsTerm (map term_of exprs)

-- a store of the value at the address
abbrev pub store : Width → Expr → Expr → Command
store width address value = Stores width (term_of address) (term_of value)

-- a block of memory, whose address the target has in the body
abbrev pub allocation : ℕ → Text → Block → Command
allocation bytes target body = Allocates bytes target (block_of body)

-- a block where the condition holds, and another where it doesn't
abbrev pub choice : Expr → Block → Block → Command
choice condition block other = Chooses (term_of condition) (block_of block) (block_of other)

-- a body, again and again while the condition holds
abbrev pub repetition : Expr → Block → Command
repetition condition body = Repeats (term_of condition) (block_of body)

-- ---- parts of their texts

-- the word of a load or a store, how many bytes it moves, and the bracket behind
abbrev pub access_text : Text → Width → Text
access_text word width = word ++ (width_text width ++ codes "(")

-- expressions, a comma and a blank between each and the next
abbrev pub exprs_text : List Expr → Text
exprs_text exprs = listed (map term_text (map term_of exprs))

-- the line of a `stackalloc`
abbrev pub allocation_line : ℕ → ℕ → Text → Text
allocation_line depth bytes target = line depth (codes "stackalloc " ++ (decimal bytes ++ (codes " as " ++ (target ++ codes " {"))))

-- the line of a word and a condition, which opens a block
abbrev pub opening_line : ℕ → Text → Expr → Text
opening_line depth word condition = line depth (word ++ (term_text (term_of condition) ++ codes " {"))

-- the line of `else` and the commands behind it, where there are any
abbrev pub else_block_text : ℕ → Block → Text
else_block_text depth block = else_text depth (block_of block) (command_text (suc depth) (block_of block))

-- ---- functions

-- the line that begins a function
abbrev pub head_line : Function → Text
head_line f = line 0 (codes "fn " ++ (f.name ++ (codes "(" ++ (listed f.params ++ (codes ")" ++ (results_text f.results ++ codes " {"))))))

-- a function
abbrev pub function_text : Function → Text
function_text f = procedure_text (procedure_of f)

-- functions, one after another
abbrev pub functions_text : List Function → Text
functions_text functions = program_text (map procedure_of functions)
