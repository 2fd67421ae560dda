-- What a flat program says, as plain data.
use Rattle.std.specs.Prelude.{ℕ, [], ◌∷◌, map}
use Rattle.lb_flat.specs.Code.{Constant, Copy, Compute, Load, Store, Forget, Call, Access}
use Rattle.lb_flat.specs.Code.{Code, Plain, Reserve, Branch, Loop, chain, Routine, Executable}
use Rattle.lb_flat.specs.declared.flat.FlatCmd.{FlatCmd, FlatCmd-F, fold-FlatCmd}
use Rattle.lb_flat.specs.declared.flat.FlatCmd.TheOpen as open-Flat
use Rattle.lb_flat.specs.declared.flat.FlatBlock.{FlatBlock, FlatBlock-F, fold-FlatBlock}
use Rattle.lb_flat.specs.declared.flat.FlatFunction.{FlatFunction}
use Rattle.lb_flat.specs.declared.flat.FlatProgram.{FlatProgram}

-- one layer of a block, whose commands are plain data already
abbrev pub flat_block_layer : FlatBlock-F (Code ℕ) (Code ℕ) → Code ℕ
flat_block_layer b = chain b.commands

-- one layer of a command
abbrev pub flat_layer : FlatCmd-F (Code ℕ) (Code ℕ) → Code ℕ
flat_layer (open-Flat.Literal y v) = Plain (Constant v) [] (y ∷ [])
flat_layer (open-Flat.Assign y x) = Plain Copy (x ∷ []) (y ∷ [])
flat_layer (open-Flat.Binary op y l r) = Plain (Compute op) (l ∷ r ∷ []) (y ∷ [])
flat_layer (open-Flat.Load w y a) = Plain (Load w) (a ∷ []) (y ∷ [])
flat_layer (open-Flat.Store w a x) = Plain (Store w) (a ∷ x ∷ []) []
flat_layer (open-Flat.Unset y) = Plain Forget [] (y ∷ [])
flat_layer (open-Flat.StackAlloc n y b) = Reserve n y b
flat_layer (open-Flat.If x b d) = Branch x b d
flat_layer (open-Flat.While b x d) = Loop b x d
flat_layer (open-Flat.Call ys f xs) = Plain (Call f) xs ys
flat_layer (open-Flat.Interact ys k xs) = Plain (Access k) xs ys

-- what a command says
abbrev pub flat_command : FlatCmd → Code ℕ
flat_command = fold-FlatCmd (Code ℕ) (Code ℕ) flat_layer flat_block_layer

-- what a block says
abbrev pub flat_block : FlatBlock → Code ℕ
flat_block = fold-FlatBlock (Code ℕ) (Code ℕ) flat_layer flat_block_layer

-- what a function says
abbrev pub flat_routine : FlatFunction → Routine ℕ
flat_routine f = record { variables = f.variables; params = f.params; results = f.results; body = flat_block f.body }

-- what a program says
abbrev pub flat_executable : FlatProgram → Executable ℕ
flat_executable p = record { routines = map flat_routine p.functions; init = p.init; again = p.again }
