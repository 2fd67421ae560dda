-- What each part of the reader finds, and where it refuses the text. Only contracts of private functions cite it.
-- A part reads at a place where depth brackets are open, and knows which symbols are expected there.
use Rattle.std.specs.Prelude.{ℕ, ◌-◌, List, [], ◌∷◌, ◌++◌, map, Result, IfOk, IfErr}
use Rattle.std.specs.Borrow.{Bor}
use Rattle.lb_syntax.specs.Names.{Text}
use Rattle.lb_syntax.specs.declared.tree.Expr.{Expr}
use Rattle.lb_syntax.specs.declared.tree.Op.{Op}
use Rattle.lb_syntax.specs.declared.tree.Cmd.{Cmd}
use Rattle.lb_syntax.specs.declared.tree.Block.{Block}
use Rattle.lb_syntax.specs.declared.tree.Function.{Function}
use Rattle.lb_syntax.specs.Tree.{Command, Then, chain, term_of, command_of, block_of, procedure_of}
use Rattle.lb_spelling.specs.declared.symbol.Symbol.{Symbol}
use Rattle.lb_spelling.specs.declared.symbol.Symbol.TheVariants as symbols
use Rattle.lb_spelling.specs.Tokens.{Token, Numeral, Named, OpenParen, CloseParen, Comma, Becomes, Sign, Stands}
use Rattle.lb_spelling.specs.Grammar.{Standing, ◌then◌, TermAt, NamesAt, ArgumentsAt, TargetsAt, CommandAt, CommandsAt, BlockAt, ElseAt, ResultsAt, FunctionAt}
use Rattle.lb_spelling.specs.InternalMachine.{Stack, opened}
use Rattle.lb_spelling.specs.InternalParsing.{Takes}
use Rattle.lb_scan.specs.declared.token.Token.{Token as ScannedToken}
use Rattle.lb_scan.specs.Tokens.{token_of}
use Rattle.lb_text.specs.declared.call.Callee.{Callee}
use Rattle.lb_text.specs.declared.parse_error.ParseError.{ParseError}
use Rattle.lb_text.specs.InternalReading.{Reads, ReadsUpTo, ReadsMore, Fails, After, coming, sign_of, token_of_callee}

-- ---- the symbols expected behind what was read of a part

-- of an expression, whose first token was read
abbrev pub rest_of_expr : Token → Stack
rest_of_expr first = coming symbols.Expr first

-- of a load, whose keyword was read
abbrev pub rest_of_load : Stack
rest_of_load = symbols.OpenParen ∷ symbols.Expr ∷ symbols.CloseParen ∷ []

-- of an operation, whose first bracket was read
abbrev pub rest_of_operation : Stack
rest_of_operation = symbols.Expr ∷ symbols.Sign ∷ symbols.Expr ∷ symbols.CloseParen ∷ []

-- of arguments, the first of which was read
abbrev pub rest_of_arguments : Stack
rest_of_arguments = symbols.MoreArguments ∷ []

-- of a call, whose first bracket was read
abbrev pub rest_of_call : Stack
rest_of_call = symbols.Arguments ∷ symbols.Semicolon ∷ []

-- of the commands of a block, whose first token was read
abbrev pub rest_of_commands : Token → Stack
rest_of_commands first = coming symbols.Commands first

-- of an `if`, whose keyword was read
abbrev pub rest_of_if : Stack
rest_of_if = symbols.Expr ∷ symbols.Block ∷ symbols.AfterIf ∷ []

-- of a `while`, whose keyword was read
abbrev pub rest_of_while : Stack
rest_of_while = symbols.Expr ∷ symbols.Block ∷ []

-- of a `stackalloc`, whose keyword was read
abbrev pub rest_of_allocation : Stack
rest_of_allocation = symbols.Number ∷ symbols.As ∷ symbols.Name ∷ symbols.Block ∷ []

-- of an `unset`, whose keyword was read
abbrev pub rest_of_unset : Stack
rest_of_unset = symbols.Name ∷ symbols.Semicolon ∷ []

-- of a store, whose keyword was read
abbrev pub rest_of_store : Stack
rest_of_store = symbols.OpenParen ∷ symbols.Expr ∷ symbols.Comma ∷ symbols.Expr ∷ symbols.CloseParen ∷ symbols.Semicolon ∷ []

-- of a command, whose first name was read
abbrev pub rest_of_named : Stack
rest_of_named = symbols.AfterName ∷ []

-- of targets, the first of which was read, and the comma behind it
abbrev pub rest_of_targets : Stack
rest_of_targets = symbols.Name ∷ symbols.MoreTargets ∷ []

-- of an assignment, whose source begins with a name, which was read
abbrev pub rest_of_source : Stack
rest_of_source = symbols.AfterSource ∷ []

-- of an assignment, whose source is an expression, the first token of which was read
abbrev pub rest_of_value : Token → Stack
rest_of_value first = coming symbols.Expr first ++ symbols.Semicolon ∷ []

-- of the results, whose arrow was read
abbrev pub rest_of_results : Stack
rest_of_results = symbols.OpenParen ∷ symbols.Name ∷ symbols.MoreNames ∷ []

-- of a function, whose keyword was read
abbrev pub rest_of_function : Stack
rest_of_function = symbols.Name ∷ symbols.OpenParen ∷ symbols.Names ∷ symbols.Results ∷ []

-- ---- what stands in the text

-- a number
abbrev pub NumeralAt : ℕ → Standing
NumeralAt value = Stands (Numeral value)

-- the sign of an operation
abbrev pub SignAt : Op → Standing
SignAt op = Stands (Sign op)

-- what a call calls
abbrev pub CalleeAt : Callee → Standing
CalleeAt callee = Stands (token_of_callee callee)

-- an expression
abbrev pub ExprAt : Expr → Standing
ExprAt expr = TermAt (term_of expr)

-- an expression, from behind its first token on
abbrev pub ExprFrom : Token → Expr → Standing
ExprFrom first expr = After (Stands first) (ExprAt expr)

-- names, and the bracket that closes them
abbrev pub ClosedNames : List Text → Standing
ClosedNames names = NamesAt names then Stands CloseParen

-- arguments, and the bracket that closes them
abbrev pub ClosedArguments : List Expr → Standing
ClosedArguments arguments = ArgumentsAt (map term_of arguments) then Stands CloseParen

-- the same, from behind the first argument on
abbrev pub ArgumentsBehind : Expr → List Expr → Standing
ArgumentsBehind first arguments = After (ExprAt first) (ClosedArguments arguments)

-- a block
abbrev pub BracedAt : Block → Standing
BracedAt block = BlockAt (block_of block)

-- a block, from behind its first bracket on
abbrev pub BlockFrom : Block → Standing
BlockFrom block = CommandsAt (block_of block)

-- a command, from behind what stands first in it
abbrev pub CommandAfter : Standing → Cmd → Standing
CommandAfter front command = After front (CommandAt (command_of command))

-- a command, from behind its first token on
abbrev pub CommandFrom : Token → Cmd → Standing
CommandFrom first command = CommandAfter (Stands first) command

-- the call of several targets, from behind the comma that follows the first of them on
abbrev pub CallOfTargets : Text → Cmd → Standing
CallOfTargets target command = CommandAfter (Stands (Named target) then Stands Comma) command

-- a call, from behind what it calls on
abbrev pub CallFrom : List Text → Callee → Cmd → Standing
CallFrom targets callee command = CommandAfter (TargetsAt targets then CalleeAt callee) command

-- a call, from behind its first bracket on
abbrev pub OpenCall : List Text → Callee → Cmd → Standing
OpenCall targets callee command = CommandAfter (TargetsAt targets then CalleeAt callee then Stands OpenParen) command

-- an assignment, from behind its `=` on
abbrev pub AssignmentTo : Text → Cmd → Standing
AssignmentTo target command = CommandAfter (Stands (Named target) then Stands Becomes) command

-- an assignment, from behind the first token of its source on
abbrev pub AssignmentFrom : Text → Token → Cmd → Standing
AssignmentFrom target first command = CommandAfter (Stands (Named target) then Stands Becomes then Stands first) command

-- an assignment, from behind the name that its source begins with on
abbrev pub AssignmentOf : Text → Text → Cmd → Standing
AssignmentOf target source command = AssignmentFrom target (Named source) command

-- a command and more commands, from behind its first token on
abbrev pub CommandsFrom : Token → Cmd → List Command → Standing
CommandsFrom first command more = After (Stands first) (CommandsAt (Then (command_of command) (chain more)))

-- the second block of an `if`, where there is one, and the commands behind it
abbrev pub ElseAndCommands : Block → List Command → Standing
ElseAndCommands block more = ElseAt (block_of block) then CommandsAt (chain more)

-- results, from behind their arrow on
abbrev pub ResultsFrom : Token → List Text → Standing
ResultsFrom arrow results = After (Stands arrow) (ResultsAt results)

-- the results of a function, where there are any, and its body
abbrev pub ResultsAndBody : List Text → Block → Standing
ResultsAndBody results body = ResultsAt results then BracedAt body

-- a function, from behind its keyword on
abbrev pub FunctionFrom : Token → Function → Standing
FunctionFrom keyword function = After (Stands keyword) (FunctionAt (procedure_of function))

-- ---- what is answered

-- what was expected stands in the text, in the shape of the value, before the rest that is given back; now so many
-- brackets are open, and these symbols are still expected; a refusal and want of memory tell nothing
abbrev pub FindsPart : {A : Type 0} → ℕ → Stack → (A → Standing) → ℕ → Stack → Text → Result (A × Bor Text) ParseError → Type 0
FindsPart depth expected shape after left text result = IfOk result (λ r. Reads depth expected (shape r.0) after left text r.1.now)

-- all that was expected, and as many brackets are open behind it
abbrev pub Finds : {A : Type 0} → ℕ → Stack → (A → Standing) → Text → Result (A × Bor Text) ParseError → Type 0
Finds depth expected shape text result = FindsPart depth expected shape depth [] text result

-- all that was expected, and the innermost bracket is closed behind it
abbrev pub FindsClosing : {A : Type 0} → ℕ → Stack → (A → Standing) → Text → Result (A × Bor Text) ParseError → Type 0
FindsClosing depth expected shape text result = FindsPart depth expected shape (depth - 1) [] text result

-- what was expected but for the symbols that are left
abbrev pub FindsLeaving : {A : Type 0} → ℕ → Stack → (A → Standing) → Stack → Text → Result (A × Bor Text) ParseError → Type 0
FindsLeaving depth expected shape left text result = FindsPart depth expected shape depth left text result

-- all that was expected behind the first token, which is the lookahead, and may have opened a bracket
abbrev pub FindsFrom : {A : Type 0} → ℕ → Token → (Token → Stack) → (Token → A → Standing) → Text → Result (A × Bor Text) ParseError → Type 0
FindsFrom depth first expected shape text result = FindsPart (opened first depth) (expected first) (shape first) depth [] text result

-- a command, from behind its first token on, and more commands are expected
abbrev pub FindsCommand : ℕ → Token → Text → Result (Cmd × Bor Text) ParseError → Type 0
FindsCommand depth first text result = FindsLeaving depth (rest_of_commands first) (CommandFrom first) (symbols.Commands ∷ []) text result

-- an assignment, from behind the first token of its source on
abbrev pub FindsAssignment : ℕ → Text → Token → Text → Result (Cmd × Bor Text) ParseError → Type 0
FindsAssignment depth target first text result = FindsFrom depth first rest_of_value (AssignmentFrom target) text result

-- two values, of all that was expected
abbrev pub FindsBoth : {A B : Type 0} → ℕ → Stack → (A → B → Standing) → Text → Result (A × B × Bor Text) ParseError → Type 0
FindsBoth depth expected shape text result = IfOk result (λ r. Reads depth expected (shape r.0 r.1) depth [] text r.2.now)

-- what was expected up to the commands behind it, the first token of which is the lookahead that is given back
abbrev pub FindsUpTo : {A : Type 0} → ℕ → Stack → (A → List Command → Standing) → Text → Result (A × ScannedToken × Bor Text) ParseError → Type 0
FindsUpTo depth expected shape text result = IfOk result (λ r. ReadsUpTo depth expected (λ more. shape r.0 more) (token_of r.1) text r.2.now)

-- a command, from behind its first token up to the commands behind it
abbrev pub FindsCommandUpTo : ℕ → Token → Text → Result (Cmd × ScannedToken × Bor Text) ParseError → Type 0
FindsCommandUpTo depth first text result = FindsUpTo depth (rest_of_commands first) (CommandsFrom first) text result

-- names, behind those that were read before, and the token that ends them
abbrev pub FindsMoreNames : ℕ → Symbol → List Text → Text → Result (List Text × Bor Text) ParseError → Type 0
FindsMoreNames depth expected names text result = IfOk result (λ r. ReadsMore depth expected names r.0 text r.1.now)

-- a token that the expected symbol takes
abbrev pub FindsToken : ℕ → Symbol → Text → Result (ScannedToken × Bor Text) ParseError → Type 0
FindsToken depth expected text result = IfOk result (λ r. Takes depth expected (token_of r.0) text r.1.now)

-- the one token that the expected symbol takes
abbrev pub FindsSign : ℕ → Symbol → Text → Result (Bor Text) ParseError → Type 0
FindsSign depth expected text result = IfOk result (λ rest. Reads depth (expected ∷ []) (Stands (sign_of expected)) (opened (sign_of expected) depth) [] text rest.now)

-- where these symbols are expected, the text has the fault that is answered; want of memory tells nothing
abbrev pub Refuses : {T : Type 0} → ℕ → Stack → Text → Result T ParseError → Type 0
Refuses depth expected text result = IfErr result (λ e. Fails depth expected text e)

-- the same behind the first token, which is the lookahead, and may have opened a bracket
abbrev pub RefusesFrom : {T : Type 0} → ℕ → Token → (Token → Stack) → Text → Result T ParseError → Type 0
RefusesFrom depth first expected text result = Refuses (opened first depth) (expected first) text result
