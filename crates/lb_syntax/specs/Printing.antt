-- The canonical text of a program.
use Rattle.std.specs.Prelude.{ℕ, zero, suc, List, [], ◌∷◌, ◌++◌, map, codes, decimal}
use Rattle.lb_syntax.specs.Names.{Text}
use Rattle.lb_syntax.specs.declared.tree.Op.{Op}
use Rattle.lb_syntax.specs.declared.tree.Op.TheVariants.{Add, Sub, Mul, Mulhuu, Divu, Remu, And, Or, Xor, Sru, Slu, Srs, Lts, Ltu, Eq}
use Rattle.lb_syntax.specs.declared.tree.Width.{Width}
use Rattle.lb_syntax.specs.declared.tree.Width.TheVariants.{One, Two, Four}
use Rattle.lb_syntax.specs.declared.tree.Action.{Action}
use Rattle.lb_syntax.specs.declared.tree.Action.TheVariants.{Read, Write}
use Rattle.lb_syntax.specs.Tree.{Term, Number, Variable, Loaded, Operation, Procedure}
use Rattle.lb_syntax.specs.Tree.{Command, Skips, Sets, Unsets, Stores, Allocates, Chooses, Repeats, Calls, Interacts, Ends, Then}

-- the sign of an operation
abbrev pub op_text : Op → Text
op_text Add = codes "+"
op_text Sub = codes "-"
op_text Mul = codes "*"
op_text Mulhuu = codes "*^"
op_text Divu = codes "/"
op_text Remu = codes "%"
op_text And = codes "&"
op_text Or = codes "|"
op_text Xor = codes "^"
op_text Sru = codes ">>"
op_text Slu = codes "<<"
op_text Srs = codes ">>."
op_text Lts = codes "<."
op_text Ltu = codes "<"
op_text Eq = codes "=="

-- how many bytes, as loads and stores spell it
abbrev pub width_text : Width → Text
width_text One = codes "1"
width_text Two = codes "2"
width_text Four = codes "4"

-- the word of an access
abbrev pub action_text : Action → Text
action_text Read = codes "MMIOREAD"
action_text Write = codes "MMIOWRITE"

-- an expression: numbers in decimal, brackets round each operation
abbrev pub term_text : Term → Text
term_text (Number n) = decimal n
term_text (Variable x) = x
term_text (Loaded w a) = codes "load" ++ (width_text w ++ (codes "(" ++ (term_text a ++ codes ")")))
term_text (Operation op l r) = codes "(" ++ (term_text l ++ (codes " " ++ (op_text op ++ (codes " " ++ (term_text r ++ codes ")")))))

-- these texts, a comma and a blank between each and the next
abbrev pub listed : List Text → Text
listed [] = []
listed (x ∷ []) = x
listed (x ∷ y ∷ xs) = x ++ (codes ", " ++ listed (y ∷ xs))

-- the targets of a call and a sign between, where it has any
abbrev pub targets_text : List Text → Text
targets_text [] = []
targets_text (x ∷ xs) = listed (x ∷ xs) ++ codes " = "

-- the callee and its arguments in brackets
abbrev pub call_text : List Text → Text → List Term → Text
call_text xs f es = targets_text xs ++ (f ++ (codes "(" ++ (listed (map term_text es) ++ codes ");")))

-- two blanks for each block that is open
abbrev pub indent : ℕ → Text
indent zero = []
indent (suc d) = codes "  " ++ indent d

-- a line of this text, with d blocks open round it
abbrev pub line : ℕ → Text → Text
line d text = indent d ++ (text ++ 10 ∷ [])

-- the line `} else {` and the text of the block behind it, where that isn't empty
abbrev pub else_text : ℕ → Command → Text → Text
else_text d Ends inner = []
else_text d b inner = line d (codes "} else {") ++ inner

-- a command or a block, with d blocks open round it
abbrev pub command_text : ℕ → Command → Text
command_text d Skips = line d (codes "skip;")
command_text d (Sets x e) = line d (x ++ (codes " = " ++ (term_text e ++ codes ";")))
command_text d (Unsets x) = line d (codes "unset " ++ (x ++ codes ";"))
command_text d (Stores w a e) = line d (codes "store" ++ (width_text w ++ (codes "(" ++ (term_text a ++ (codes ", " ++ (term_text e ++ codes ");"))))))
command_text d (Allocates n x b) =
    line d (codes "stackalloc " ++ (decimal n ++ (codes " as " ++ (x ++ codes " {"))))
    ++ (command_text (suc d) b ++ line d (codes "}"))
command_text d (Chooses e b c) =
    line d (codes "if " ++ (term_text e ++ codes " {"))
    ++ (command_text (suc d) b ++ (else_text d c (command_text (suc d) c) ++ line d (codes "}")))
command_text d (Repeats e b) = line d (codes "while " ++ (term_text e ++ codes " {")) ++ (command_text (suc d) b ++ line d (codes "}"))
command_text d (Calls xs f es) = line d (call_text xs f es)
command_text d (Interacts xs k es) = line d (call_text xs (action_text k) es)
command_text d Ends = []
command_text d (Then c b) = command_text d c ++ command_text d b

-- the results of a function, where it has any
abbrev pub results_text : List Text → Text
results_text [] = []
results_text (x ∷ xs) = codes " -> (" ++ (listed (x ∷ xs) ++ codes ")")

-- a function, which begins at its line's start
abbrev pub procedure_text : Procedure → Text
procedure_text f =
    line 0 (codes "fn " ++ (f.name ++ (codes "(" ++ (listed f.params ++ (codes ")" ++ (results_text f.results ++ codes " {"))))))
    ++ (command_text 1 f.body ++ line 0 (codes "}"))

-- the canonical text of a program: its functions one after another
abbrev pub program_text : List Procedure → Text
program_text [] = []
program_text (f ∷ fs) = procedure_text f ++ program_text fs
