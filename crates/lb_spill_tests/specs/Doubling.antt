-- A flat program made by hand: `init` sets a variable, and doubles it in one command.
use Rattle.std.specs.Prelude.{ℕ, List, [], ◌∷◌}
use Rattle.lb_syntax.specs.declared.tree.Op.TheVariants.{Add}
use Rattle.lb_flat.specs.Code.{Constant, Compute, Code, Plain, chain, Routine, Executable}

-- the commands of `init`
abbrev pub doubling_code : List (Code ℕ)
doubling_code = Plain (Constant 5) [] (0 ∷ []) ∷ Plain (Compute Add) (0 ∷ 0 ∷ []) (0 ∷ []) ∷ []

-- a function without parameters and results
abbrev pub plain_routine : ℕ → List (Code ℕ) → Routine ℕ
plain_routine n commands = record {
  variables = n;
  params = [];
  results = [];
  body = chain commands;
}

abbrev pub doubling_functions : List (Routine ℕ)
doubling_functions = plain_routine 1 doubling_code ∷ plain_routine 0 [] ∷ []

abbrev pub doubling_program : Executable ℕ
doubling_program = record { routines = doubling_functions; init = 0; again = 1 }
