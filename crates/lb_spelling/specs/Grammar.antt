-- The grammar: which text a program has.
use Rattle.std.specs.Prelude.{◌≡◌, ◌⊎◌, true, List, [], ◌∷◌}
use Rattle.lb_syntax.specs.Names.{Text}
use Rattle.lb_syntax.specs.Tree.{Term, Number, Variable, Loaded, Operation, Procedure}
use Rattle.lb_syntax.specs.Tree.{Command, Skips, Sets, Unsets, Stores, Allocates, Chooses, Repeats, Calls, Interacts, Ends, Then}
use Rattle.lb_spelling.specs.Tokens.{Token, Numeral, Named, Fn, If, Else, While, Skip, Unset, StackAlloc, As, Load, Store, Device, OpenParen, CloseParen, OpenBrace, CloseBrace, Comma, Semicolon, Becomes, Arrow, Sign, Stands, Outside, gap}

-- what stands at the front of a text, before a rest
abbrev pub Standing : Type 1
Standing = Text → Text → Type 0

-- the one, and behind it the other
infixr 20 ◌then◌
abbrev pub ◌then◌ : Standing → Standing → Standing
(P then Q) s rest = (mid : Text) × P s mid × Q mid rest

-- the empty text
abbrev pub Empty : Standing
Empty s rest = s ≡ rest

-- no text
abbrev pub Nowhere : Standing
Nowhere s rest = ⊥

-- expr = number | name | ("load1" | "load2" | "load4") "(" expr ")" | "(" expr op expr ")"
abbrev pub TermAt : Term → Standing
TermAt (Number n) = Stands (Numeral n)
TermAt (Variable x) = Stands (Named x)
TermAt (Loaded w a) = Stands (Load w) then Stands OpenParen then TermAt a then Stands CloseParen
TermAt (Operation op l r) = Stands OpenParen then TermAt l then Stands (Sign op) then TermAt r then Stands CloseParen

-- each behind a comma
abbrev pub MoreAt : {A : Type 0} → (A → Standing) → List A → Standing
MoreAt P [] = Empty
MoreAt P (x ∷ xs) = Stands Comma then P x then MoreAt P xs

-- a comma between each and the next; there may be none
abbrev pub ListAt : {A : Type 0} → (A → Standing) → List A → Standing
ListAt P [] = Empty
ListAt P (x ∷ xs) = P x then MoreAt P xs

-- a name
abbrev pub NameAt : Text → Standing
NameAt x = Stands (Named x)

-- [names], where names = name ("," name)*
abbrev pub NamesAt : List Text → Standing
NamesAt xs = ListAt NameAt xs

-- [exprs], where exprs = expr ("," expr)*
abbrev pub ArgumentsAt : List Term → Standing
ArgumentsAt es = ListAt TermAt es

-- [names "="]
abbrev pub TargetsAt : List Text → Standing
TargetsAt [] = Empty
TargetsAt (x ∷ xs) = NamesAt (x ∷ xs) then Stands Becomes

-- callee "(" [exprs] ")" ";"
abbrev pub CallAt : Token → List Term → Standing
CallAt callee es = Stands callee then Stands OpenParen then ArgumentsAt es then Stands CloseParen then Stands Semicolon

-- "{" and the commands with the bracket that closes them
abbrev pub Braced : Standing → Standing
Braced commands = Stands OpenBrace then commands

-- ["else" block]; without it the block is empty
abbrev pub OptionalElse : Command → Standing → Standing
OptionalElse c block s rest = (Stands Else then block) s rest ⊎ ((c ≡ Ends) × (s ≡ rest))

abbrev mutual
  -- one command
  pub CommandAt : Command → Standing
  CommandAt Skips = Stands Skip then Stands Semicolon
  CommandAt (Sets x e) = Stands (Named x) then Stands Becomes then TermAt e then Stands Semicolon
  CommandAt (Unsets x) = Stands Unset then Stands (Named x) then Stands Semicolon
  CommandAt (Stores w a e) = Stands (Store w) then Stands OpenParen then TermAt a then Stands Comma then TermAt e then Stands CloseParen then Stands Semicolon
  CommandAt (Allocates n x b) = Stands StackAlloc then Stands (Numeral n) then Stands As then Stands (Named x) then Braced (CommandsAt b)
  CommandAt (Chooses e b d) = Stands If then TermAt e then Braced (CommandsAt b) then OptionalElse d (Braced (CommandsAt d))
  CommandAt (Repeats e b) = Stands While then TermAt e then Braced (CommandsAt b)
  CommandAt (Calls xs f es) = TargetsAt xs then CallAt (Named f) es
  CommandAt (Interacts xs k es) = TargetsAt xs then CallAt (Device k) es
  CommandAt Ends = Nowhere
  CommandAt (Then c b) = Nowhere

  -- command* "}": the commands of a block, and the bracket that closes it
  pub CommandsAt : Command → Standing
  CommandsAt Ends = Stands CloseBrace
  CommandsAt (Then c b) = CommandAt c then CommandsAt b
  CommandsAt _ = Nowhere

-- block = "{" command* "}"
abbrev pub BlockAt : Command → Standing
BlockAt b = Braced (CommandsAt b)

-- ["else" block]
abbrev pub ElseAt : Command → Standing
ElseAt c = OptionalElse c (BlockAt c)

-- ["->" "(" names ")"]
abbrev pub ResultsAt : List Text → Standing
ResultsAt [] = Empty
ResultsAt (x ∷ xs) = Stands Arrow then Stands OpenParen then NamesAt (x ∷ xs) then Stands CloseParen

-- function = "fn" name "(" [names] ")" ["->" "(" names ")"] block
abbrev pub FunctionAt : Procedure → Standing
FunctionAt f = Stands Fn then Stands (Named f.name) then Stands OpenParen then NamesAt f.params then Stands CloseParen then ResultsAt f.results then BlockAt f.body

-- function*
abbrev pub FunctionsAt : List Procedure → Standing
FunctionsAt [] = Empty
FunctionsAt (f ∷ fs) = FunctionAt f then FunctionsAt fs

-- the text of a program, the limit on brackets aside; blanks and comments may come last too
abbrev pub IsText : List Procedure → Text → Type 0
IsText p s = (rest : Text) × FunctionsAt p s rest × (gap true Outside rest ≡ true)
