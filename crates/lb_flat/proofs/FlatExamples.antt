-- What the source's commands become in flat code, and what a function and its flat form ask for.
use Rattle.std.proofs.Common.{◌≡◌, ℕ, ◌+◌, ◌*◌, List, [], ◌∷◌, refl}
use Rattle.lb_syntax.specs.declared.tree.Op.TheVariants.{Add, Ltu}
use Rattle.lb_syntax.specs.declared.tree.Width.TheVariants.{One, Four}
use Rattle.lb_syntax.specs.declared.tree.Action.TheVariants.{Write}
use Rattle.lb_syntax.specs.Names.{Text}
use Rattle.lb_syntax.specs.Tree.{Number, Variable, Loaded, Operation, Procedure, chain}
use Rattle.lb_syntax.specs.Tree.{Command, Skips, Sets, Unsets, Stores, Allocates, Chooses, Repeats, Calls, Interacts}
use Rattle.lb_syntax.specs.Needs as source
use Rattle.lb_flat.specs.Code.{Constant, Compute, Load, Store, Forget, Call, Access}
use Rattle.lb_flat.specs.Code.{Code, Plain, Reserve, Branch, Loop, Nothing, Sequence, Routine}
use Rattle.lb_flat.specs.Code as code
use Rattle.lb_flat.specs.Needs.{frame_need, flat_routine_words}
use Rattle.lb_flat.specs.SourceCounts.{source_memory_words}
use Rattle.lb_flat.specs.Flattened.{place_in}
use Rattle.lb_flat.specs.InternalFlatForms.{flat_code, flat_procedure}

-- three variables, which have the numbers 0, 1 and 2
abbrev a : Text
a = 97 ∷ []

abbrev x : Text
x = 120 ∷ []

abbrev p : Text
p = 112 ∷ []

abbrev names : List Text
names = a ∷ x ∷ p ∷ []

-- two functions
abbrev f : Text
f = 102 ∷ []

abbrev g : Text
g = 103 ∷ []

abbrev flat : Command → Code ℕ
flat c = flat_code (place_in names) (place_in (f ∷ g ∷ [])) 3 c Nothing

-- x = (a + load4(a))
abbrev sum_command : Command
sum_command = Sets x (Operation Add (Variable a) (Loaded Four (Variable a)))

-- the variable is read where it is, and the sum comes into the target
sum_is : flat sum_command ≡ code.chain (Plain (Load Four) (0 ∷ []) (4 ∷ []) ∷ Plain (Compute Add) (0 ∷ 4 ∷ []) (1 ∷ []) ∷ [])
sum_is = refl

-- while (x < 3) { (x, a) = g(a, 7); }: the condition is computed before each test
abbrev loop_command : Command
loop_command = Repeats (Operation Ltu (Variable x) (Number 3)) (chain (Calls (x ∷ a ∷ []) g (Variable a ∷ Number 7 ∷ []) ∷ []))

loop_is : flat loop_command
    ≡ code.chain (Loop
    (code.chain (Plain (Constant 3) [] (4 ∷ []) ∷ Plain (Compute Ltu) (1 ∷ 4 ∷ []) (3 ∷ []) ∷ []))
    3
    (code.chain (Plain (Constant 7) [] (4 ∷ []) ∷ Plain (Call 1) (0 ∷ 4 ∷ []) (1 ∷ 0 ∷ []) ∷ [])) ∷ [])
loop_is = refl

-- stackalloc 8 as p { store1(p, x); unset x; }
abbrev block_command : Command
block_command = Allocates 8 p (chain (Stores One (Variable p) (Variable x) ∷ Unsets x ∷ []))

block_is : flat block_command
    ≡ code.chain (Reserve 8 2 (code.chain (Plain (Store One) (2 ∷ 1 ∷ []) [] ∷ Plain Forget [] (1 ∷ []) ∷ [])) ∷ [])
block_is = refl

-- if a { skip; } else { MMIOWRITE(a, x); }
abbrev choice_command : Command
choice_command = Chooses (Variable a) (chain (Skips ∷ [])) (chain (Interacts [] Write (Variable a ∷ Variable x ∷ []) ∷ []))

choice_is : flat choice_command
    ≡ code.chain (Branch 0 Nothing (code.chain (Plain (Access Write) (0 ∷ 1 ∷ []) [] ∷ [])) ∷ [])
choice_is = refl

-- all of them in a function
abbrev whole : Procedure
whole = record { name = f; params = a ∷ []; results = x ∷ []; body = chain (sum_command ∷ loop_command ∷ block_command ∷ choice_command ∷ []) }

abbrev whole_flat : Routine ℕ
whole_flat = flat_procedure (f ∷ g ∷ []) names whole

-- three variables, a depth of 3 and two arguments: 8 in all
whole_variables : whole_flat.variables ≡ 8
whole_variables = refl

whole_frames : frame_need whole_flat ≡ 100
whole_frames = refl

whole_source_frame : source.frame_need whole ≡ 168
whole_source_frame = refl

-- the source counts 6 words for each of the nine variables that are read where they are, 8 for the assignment, whose sum comes into
-- x at once, and 8 for `skip`
whole_words : flat_routine_words whole_flat + 6 * 9 + 8 + 8 ≡ source.procedure_words whole
whole_words = refl

whole_memory_words : source_memory_words whole ≡ 80 + 4 + 4 + (1 + 1 + 1) + 4 * (2 + 2) + 4 * 2
whole_memory_words = refl
