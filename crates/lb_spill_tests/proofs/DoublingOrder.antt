-- The program made by hand is in order.
use Rattle.std.proofs.Common.{◌≡◌, ℕ, zero, suc, ◌<◌, ◌≤◌, List, [], ◌∷◌, refl, arith, All, Contains, slice_get}
use Rattle.std.proofs.lemmas.List.Elements.{All-nil, All-cons}
use Rattle.lb_syntax.specs.Rules.{IsBlockSize}
use Rattle.lb_flat.specs.Code.{Routine}
use Rattle.lb_flat.specs.Calls.{callees_of, frame_of, IsCallPath, IsRecursive, path_need}
use Rattle.lb_flat.specs.Order.{KeepsRoutineRules, IsVariable, IsFlatInOrder}
use Rattle.lb_spill_tests.specs.Doubling.{doubling_code, plain_routine, doubling_functions, doubling_program}

abbrev doubles : Routine ℕ
doubles = plain_routine 1 doubling_code

abbrev idles : Routine ℕ
idles = plain_routine 0 []

abbrev none : (n : ℕ) → All (IsVariable n) []
none n = All-nil (IsVariable n)

abbrev one : All (IsVariable 1) (0 ∷ [])
one = All-cons (IsVariable 1) 0 [] (omega arith) (none 1)

doubles_keeps : KeepsRoutineRules IsVariable doubling_functions doubles
doubles_keeps = record {
  params = none 1;
  results = none 1;
  names = ((none 1, one), ((All-cons (IsVariable 1) 0 (0 ∷ []) (omega arith) one, one), tt));
  shapes = ((omega arith, refl, refl), ((refl, refl), tt));
  few_params = omega arith;
  few_results = omega arith;
  block_sizes = All-nil IsBlockSize;
  frame = omega arith;
}

idles_keeps : KeepsRoutineRules IsVariable doubling_functions idles
idles_keeps = record {
  params = none 0;
  results = none 0;
  names = tt;
  shapes = tt;
  few_params = omega arith;
  few_results = omega arith;
  block_sizes = All-nil IsBlockSize;
  frame = omega arith;
}

nobody_called : (g h : ℕ) → Contains (callees_of (slice_get doubling_functions g)) h → ⊥
nobody_called zero h c = absurd (omega (arith, c.1))
nobody_called (suc zero) h c = absurd (omega (arith, c.1))
nobody_called (suc (suc g)) h c = absurd (omega (arith, c.1))

no_circle : (g : ℕ) → IsRecursive doubling_functions g → ⊥
no_circle g ([], k) = nobody_called g g k.1
no_circle g (h ∷ path, k) = nobody_called g h k.1

small_frame : (g : ℕ) → frame_of (slice_get doubling_functions g) ≤ 64
small_frame zero = omega arith
small_frame (suc zero) = omega arith
small_frame (suc (suc g)) = omega arith

shallow : (path : List ℕ) → IsCallPath doubling_functions path → path_need doubling_functions path ≤ 65536
shallow [] k = omega arith
shallow (g ∷ []) k = omega (arith, small_frame g)
shallow (g ∷ h ∷ path) k = absurd (nobody_called g h k.1)

all_keep : All (KeepsRoutineRules IsVariable doubling_functions) doubling_functions
all_keep =
    let Keeps : Routine ℕ → Type 0 = KeepsRoutineRules IsVariable doubling_functions in
    All-cons Keeps doubles (idles ∷ []) doubles_keeps (All-cons Keeps idles [] idles_keeps (All-nil Keeps))

pub doubling_in_order : IsFlatInOrder doubling_program
doubling_in_order = record {
  few_functions = omega arith;
  init = (refl, refl);
  again = (refl, refl);
  routines = all_keep;
  no_recursion = λ g lt r. no_circle g r;
  code = omega arith;
  stack = shallow;
}
