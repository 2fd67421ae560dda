-- A program as plain data: what its tree says, without boxes. Every other definition goes by cases over this.
use Rattle.std.specs.Prelude.{ℕ, List, [], ◌∷◌, map}
use Rattle.lb_syntax.specs.Names.{Text}
use Rattle.lb_syntax.specs.declared.tree.Op.{Op}
use Rattle.lb_syntax.specs.declared.tree.Width.{Width}
use Rattle.lb_syntax.specs.declared.tree.Action.{Action}
use Rattle.lb_syntax.specs.declared.tree.Expr.{Expr, Expr-F, fold-Expr}
use Rattle.lb_syntax.specs.declared.tree.Expr.TheOpen as open-Expr
use Rattle.lb_syntax.specs.declared.tree.Cmd.{Cmd, Cmd-F, fold-Cmd}
use Rattle.lb_syntax.specs.declared.tree.Cmd.TheOpen as open-Cmd
use Rattle.lb_syntax.specs.declared.tree.Block.{Block, Block-F, fold-Block}
use Rattle.lb_syntax.specs.declared.tree.Function.{Function}
use Rattle.lb_syntax.specs.declared.tree.Program.{Program}

-- an expression
pub data Term : Type 0 where
  Number : (value : ℕ) → Term
  Variable : (name : Text) → Term
  Loaded : (width : Width) → (address : Term) → Term
  Operation : (op : Op) → (left right : Term) → Term

-- a command or a block: a block is a chain of commands, which Ends closes
pub data Command : Type 0 where
  Skips : Command
  Sets : (target : Text) → (value : Term) → Command
  Unsets : (target : Text) → Command
  Stores : (width : Width) → (address value : Term) → Command
  Allocates : (bytes : ℕ) → (target : Text) → (body : Command) → Command
  Chooses : (condition : Term) → (yes_block no_block : Command) → Command
  Repeats : (condition : Term) → (body : Command) → Command
  Calls : (targets : List Text) → (function : Text) → (arguments : List Term) → Command
  Interacts : (targets : List Text) → (action : Action) → (arguments : List Term) → Command
  Ends : Command
  Then : (first rest : Command) → Command

-- a function
pub record Procedure : Type 0 where
  pub name : Text
  pub params : List Text
  pub results : List Text
  pub body : Command

-- one layer of an expression, whose parts are plain data already
abbrev pub term_layer : Expr-F Term → Term
term_layer (open-Expr.Literal n) = Number n
term_layer (open-Expr.Var x) = Variable x
term_layer (open-Expr.Load w a) = Loaded w a
term_layer (open-Expr.Binary op l r) = Operation op l r

-- what an expression says
abbrev pub term_of : Expr → Term
term_of = fold-Expr Term term_layer

-- commands, one after another
abbrev pub chain : List Command → Command
chain [] = Ends
chain (c ∷ cs) = Then c (chain cs)

-- one layer of a block
abbrev pub block_layer : Block-F Command Command → Command
block_layer b = chain b.commands

-- one layer of a command
abbrev pub command_layer : Cmd-F Command Command → Command
command_layer open-Cmd.Skip = Skips
command_layer (open-Cmd.Set x e) = Sets x (term_of e)
command_layer (open-Cmd.Unset x) = Unsets x
command_layer (open-Cmd.Store w a e) = Stores w (term_of a) (term_of e)
command_layer (open-Cmd.StackAlloc n x b) = Allocates n x b
command_layer (open-Cmd.If e b d) = Chooses (term_of e) b d
command_layer (open-Cmd.While e b) = Repeats (term_of e) b
command_layer (open-Cmd.Call xs f es) = Calls xs f (map term_of es)
command_layer (open-Cmd.Interact xs k es) = Interacts xs k (map term_of es)

-- what a command says
abbrev pub command_of : Cmd → Command
command_of = fold-Cmd Command Command command_layer block_layer

-- what a block says
abbrev pub block_of : Block → Command
block_of = fold-Block Command Command command_layer block_layer

-- what a function says
abbrev pub procedure_of : Function → Procedure
procedure_of f = record { name = f.name; params = f.params; results = f.results; body = block_of f.body }

-- what a program says: its functions in text order
abbrev pub program_of : Program → List Procedure
program_of p = map procedure_of p.functions
