-- The large program that draws make: 64 functions, each of which but the first calls the one before
-- it, and `init` and `loop`.
use Rattle.std.specs.Prelude.{ℕ, zero, suc, ◌+◌, ◌*◌, ◌%◌, List, [], ◌∷◌, ◌++◌, map}
use Rattle.std.specs.Prelude.{codes, decimal, slice_index_or}
use Rattle.std.specs.List.{range_with_len}
use Rattle.lb_syntax.specs.Names.{Text}
use Rattle.lb_syntax.specs.Tree.{Term, Number, Variable, Operation, Procedure, chain}
use Rattle.lb_syntax.specs.Tree.{Command, Skips, Sets, Repeats, Calls}
use Rattle.lb_syntax.specs.declared.tree.Op.{Op}
use Rattle.lb_syntax.specs.declared.tree.Op.TheVariants.{Add, Sub, Mul, Mulhuu, Divu, Remu}
use Rattle.lb_syntax.specs.declared.tree.Op.TheVariants.{And, Or, Xor, Sru, Slu, Srs, Lts, Ltu, Eq}
use Rattle.lb_builders.specs.Registers.{writes}
use Rattle.lb_gen.specs.declared.drawn.DrawnFunction.{DrawnFunction}

-- ---- what is drawn

-- the operations, in the order of the language's table of signs
abbrev pub operations : List Op
operations =
    Add ∷ Sub ∷ Mul ∷ Mulhuu ∷ Divu ∷ Remu ∷ And ∷ Or ∷ Xor ∷ Sru ∷ Slu ∷ Srs ∷ Lts ∷ Ltu ∷ Eq ∷ []

-- the operation that a draw chooses
abbrev pub operation_of : ℕ → Op
operation_of n = slice_index_or operations (n % 15) Add

-- how often a loop turns, by a draw: 1 to 8 times
abbrev pub turns_of : ℕ → ℕ
turns_of n = 1 + n % 8

-- what is drawn for the function of number j: seven draws, from number 7j on
abbrev pub drawn_function : (ℕ → ℕ) → ℕ → DrawnFunction
drawn_function draws j = record {
  first_operation = operation_of (draws (7 * j));
  first_number = draws (7 * j + 1);
  turns = turns_of (draws (7 * j + 2));
  second_operation = operation_of (draws (7 * j + 3));
  third_operation = operation_of (draws (7 * j + 4));
  second_number = draws (7 * j + 5);
  third_number = draws (7 * j + 6);
}

-- ---- names

abbrev pub a_ : Text
a_ = codes "a"

abbrev pub b_ : Text
b_ = codes "b"

abbrev pub i_ : Text
i_ = codes "i"

abbrev pub r_ : Text
r_ = codes "r"

-- f0, f1 and so on, the number in decimal
abbrev pub function_name : ℕ → Text
function_name j = codes "f" ++ decimal j

-- ---- the function of a number
-- OP1, K1, N, OP2, OP3, K2 and K3 are what is drawn for it, in this order

-- `r = (a OP1 K1);`
abbrev pub first_value : DrawnFunction → Command
first_value drawn =
    Sets r_ (Operation drawn.first_operation (Variable a_) (Number drawn.first_number))

-- `i = 0;`
abbrev pub no_turns : Command
no_turns = Sets i_ (Number 0)

-- `r = ((r OP2 b) OP3 K2);`
abbrev pub next_value : DrawnFunction → Command
next_value drawn =
    Sets r_ (
    Operation drawn.third_operation
    (Operation drawn.second_operation (Variable r_) (Variable b_)) (Number drawn.second_number)
    )

-- `i = (i + 1);`
abbrev pub count_turn : Command
count_turn = Sets i_ (Operation Add (Variable i_) (Number 1))

-- `while (i < N) { .. }`
abbrev pub turns : DrawnFunction → Command
turns drawn =
    Repeats (Operation Ltu (Variable i_) (Number drawn.turns))
    (chain (next_value drawn ∷ count_turn ∷ []))

-- `r = fI(first, second);`
abbrev pub call_of : ℕ → Term → ℕ → Command
call_of i first second = Calls (r_ ∷ []) (function_name i) (first ∷ Number second ∷ [])

-- `r = fI(r, K3);` of the function before, which the first function doesn't have
abbrev pub calls_before : ℕ → DrawnFunction → List Command
calls_before zero drawn = []
calls_before (suc i) drawn = call_of i (Variable r_) drawn.third_number ∷ []

-- `MMIOWRITE(0x1001200C, r);`
abbrev pub shows : Command
shows = writes 0x1001_200C (Variable r_)

abbrev pub function_body : ℕ → DrawnFunction → List Command
function_body j drawn =
    first_value drawn ∷ no_turns ∷ turns drawn ∷ (calls_before j drawn ++ shows ∷ [])

-- `fn fJ(a, b) -> (r) { .. }`
abbrev pub made_function : ℕ → DrawnFunction → Procedure
made_function j drawn = record {
  name = function_name j;
  params = a_ ∷ b_ ∷ [];
  results = r_ ∷ [];
  body = chain (function_body j drawn);
}

-- ---- the functions that are called from outside

-- `fn init() { r = f63(first, second); }`
abbrev pub init_function : ℕ → ℕ → Procedure
init_function first second = record {
  name = codes "init";
  params = [];
  results = [];
  body = chain (call_of 63 (Number first) second ∷ []);
}

-- `fn loop() { skip; }`
abbrev pub loop_function : Procedure
loop_function = record { name = codes "loop"; params = []; results = []; body = chain (Skips ∷ []) }

-- ---- the whole

-- the function of number j, of these draws
abbrev pub numbered_function : (ℕ → ℕ) → ℕ → Procedure
numbered_function draws j = made_function j (drawn_function draws j)

-- the functions of the numbers 0 to n - 1
abbrev pub numbered_functions : (ℕ → ℕ) → ℕ → List Procedure
numbered_functions draws n = map (numbered_function draws) (range_with_len 0 n)

-- the functions that are called from outside: what is drawn for `init` comes behind all else
abbrev pub entry_functions : (ℕ → ℕ) → List Procedure
entry_functions draws = init_function (draws 448) (draws 449) ∷ loop_function ∷ []

-- the program of these draws, where `draws n` is the draw of number n, from 0
unfoldable pub made : (ℕ → ℕ) → List Procedure
made draws = numbered_functions draws 64 ++ entry_functions draws
