-- What a placed program says, as plain data.
use Rattle.std.specs.Prelude.{[], ◌∷◌, map}
use Rattle.lb_flat.specs.Code.{Constant, Copy, Compute, Load, Store, Call, Access}
use Rattle.lb_flat.specs.Code.{Code, Plain, Reserve, Branch, Loop, chain, Routine, Executable}
use Rattle.lb_flat.specs.declared.places.Place.{Place}
use Rattle.lb_flat.specs.declared.places.Place.TheVariants.{Register, Slot}
use Rattle.lb_flat.specs.declared.placed.PlacedCmd.{PlacedCmd, PlacedCmd-F, fold-PlacedCmd}
use Rattle.lb_flat.specs.declared.placed.PlacedCmd.TheOpen as open-Placed
use Rattle.lb_flat.specs.declared.placed.PlacedBlock.{PlacedBlock, PlacedBlock-F, fold-PlacedBlock}
use Rattle.lb_flat.specs.declared.placed.PlacedFunction.{PlacedFunction}
use Rattle.lb_flat.specs.declared.placed.PlacedProgram.{PlacedProgram}

-- one layer of a block, whose commands are plain data already
abbrev pub placed_block_layer : PlacedBlock-F (Code Place) (Code Place) → Code Place
placed_block_layer b = chain b.commands

-- one layer of a command: a move from or to a slot is a copy
abbrev pub placed_layer : PlacedCmd-F (Code Place) (Code Place) → Code Place
placed_layer (open-Placed.Literal y v) = Plain (Constant v) [] (Register y ∷ [])
placed_layer (open-Placed.Assign y x) = Plain Copy (Register x ∷ []) (Register y ∷ [])
placed_layer (open-Placed.Binary op y l r) = Plain (Compute op) (Register l ∷ Register r ∷ []) (Register y ∷ [])
placed_layer (open-Placed.Load w y a) = Plain (Load w) (Register a ∷ []) (Register y ∷ [])
placed_layer (open-Placed.Store w a x) = Plain (Store w) (Register a ∷ Register x ∷ []) []
placed_layer (open-Placed.StackAlloc n y b) = Reserve n (Register y) b
placed_layer (open-Placed.If x b d) = Branch (Register x) b d
placed_layer (open-Placed.While b x d) = Loop b (Register x) d
placed_layer (open-Placed.Call ys f xs) = Plain (Call f) xs ys
placed_layer (open-Placed.Interact ys k xs) = Plain (Access k) xs ys
placed_layer (open-Placed.GetSlot r s) = Plain Copy (Slot s ∷ []) (Register r ∷ [])
placed_layer (open-Placed.PutSlot s r) = Plain Copy (Register r ∷ []) (Slot s ∷ [])

-- what a command says
abbrev pub placed_command : PlacedCmd → Code Place
placed_command = fold-PlacedCmd (Code Place) (Code Place) placed_layer placed_block_layer

-- what a block says
abbrev pub placed_block : PlacedBlock → Code Place
placed_block = fold-PlacedBlock (Code Place) (Code Place) placed_layer placed_block_layer

-- what a function says
abbrev pub placed_routine : PlacedFunction → Routine Place
placed_routine f = record { variables = f.slots; params = f.params; results = f.results; body = placed_block f.body }

-- what a program says
abbrev pub placed_executable : PlacedProgram → Executable Place
placed_executable p = record { routines = map placed_routine p.functions; init = p.init; again = p.again }
