-- What every tree says: names are names, numbers are words, and blocks stand where blocks belong.
use Rattle.std.specs.Prelude.{ℕ, ◌^◌, ◌<◌, All}
use Rattle.lb_syntax.specs.Names.{IsName}
use Rattle.lb_syntax.specs.Tree.{Term, Number, Variable, Loaded, Operation, Procedure}
use Rattle.lb_syntax.specs.Tree.{Command, Skips, Sets, Unsets, Stores, Allocates, Chooses, Repeats, Calls, Interacts, Ends, Then}

-- an unsigned number of 32 bits
abbrev pub IsWord : ℕ → Type 0
IsWord n = n < 2 ^ 32

-- an expression
abbrev pub IsTerm : Term → Type 0
IsTerm (Number n) = IsWord n
IsTerm (Variable x) = IsName x
IsTerm (Loaded w a) = IsTerm a
IsTerm (Operation op l r) = IsTerm l × IsTerm r

abbrev mutual
  -- one command
  pub IsCommand : Command → Type 0
  IsCommand Skips = Unit {0}
  IsCommand (Sets x e) = IsName x × IsTerm e
  IsCommand (Unsets x) = IsName x
  IsCommand (Stores w a e) = IsTerm a × IsTerm e
  IsCommand (Allocates n x b) = IsWord n × IsName x × IsBlock b
  IsCommand (Chooses e b d) = IsTerm e × IsBlock b × IsBlock d
  IsCommand (Repeats e b) = IsTerm e × IsBlock b
  IsCommand (Calls xs f es) = All IsName xs × IsName f × All IsTerm es
  IsCommand (Interacts xs k es) = All IsName xs × All IsTerm es
  IsCommand Ends = ⊥
  IsCommand (Then c b) = ⊥

  -- a block: commands, one after another
  pub IsBlock : Command → Type 0
  IsBlock Ends = Unit {0}
  IsBlock (Then c b) = IsCommand c × IsBlock b
  IsBlock _ = ⊥

-- a function
pub record IsProcedure (f : Procedure) : Type 0 where
  pub name : IsName f.name
  pub params : All IsName f.params
  pub results : All IsName f.results
  pub body : IsBlock f.body
