-- Flat and placed code as plain data: commands of one operation each. What they name is of any kind: numbered variables in flat
-- code, places in placed code. Every other definition goes by cases over this.
use Rattle.std.specs.Prelude.{ℕ, List, [], ◌∷◌, ◌++◌}
use Rattle.lb_syntax.specs.declared.tree.Op.{Op}
use Rattle.lb_syntax.specs.declared.tree.Width.{Width}
use Rattle.lb_syntax.specs.declared.tree.Action.{Action}

-- what a plain command makes of the values of its arguments
pub data Operation : Type 0 where
  Constant : (value : ℕ) → Operation
  Copy : Operation
  Compute : (op : Op) → Operation
  Load : (width : Width) → Operation
  Store : (width : Width) → Operation
  Forget : Operation
  Call : (function : ℕ) → Operation
  Access : (action : Action) → Operation

-- a command or a block: a block is a sequence of commands, which Nothing closes. A command without blocks is plain: it reads the
-- arguments and sets the targets
pub data Code (X : Type 0) : Type 0 where
  Plain : (operation : Operation) → (arguments targets : List X) → Code X
  Reserve : (bytes : ℕ) → (target : X) → (body : Code X) → Code X
  Branch : (condition : X) → (yes_block no_block : Code X) → Code X
  Loop : (before : Code X) → (condition : X) → (body : Code X) → Code X
  Nothing : Code X
  Sequence : (first rest : Code X) → Code X

-- commands, one after another
abbrev pub chain : {X : Type 0} → List (Code X) → Code X
chain [] = Nothing
chain (c ∷ cs) = Sequence c (chain cs)

-- the sizes of the stackalloc blocks of a command or a block, in text order
abbrev pub sites : {X : Type 0} → Code X → List ℕ
sites (Plain o xs ys) = []
sites (Reserve n y b) = n ∷ sites b
sites (Branch x b d) = sites b ++ sites d
sites (Loop b x d) = sites b ++ sites d
sites Nothing = []
sites (Sequence c d) = sites c ++ sites d

-- a function, and how many variables it has: of a placed function they are its slots
pub record Routine (X : Type 0) : Type 0 where
  pub variables : ℕ
  pub params : List X
  pub results : List X
  pub body : Code X

-- a program: its functions, and the numbers of that which runs once and of that which then runs again and again
pub record Executable (X : Type 0) : Type 0 where
  pub routines : List (Routine X)
  pub init : ℕ
  pub again : ℕ
