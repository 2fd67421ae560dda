-- A flat and a placed program that are in order: the rules can be kept.
use Rattle.std.proofs.Common.{◌≡◌, ℕ, zero, suc, ◌<◌, ◌≤◌, List, [], ◌∷◌, refl, sym, arith, inl, inr, All, Contains, slice_get}
use Rattle.std.proofs.lemmas.List.Elements.{All-nil, All-cons}
use Rattle.lb_syntax.specs.Rules.{IsBlockSize}
use Rattle.lb_flat.specs.declared.places.Place.{Place}
use Rattle.lb_flat.specs.declared.places.Place.TheVariants.{Register, Slot}
use Rattle.lb_flat.specs.Code.{Constant, Copy, Call, Plain, Nothing, chain, Routine}
use Rattle.lb_flat.specs.Calls.{callees_of, frame_of, IsCallPath, IsRecursive, path_need}
use Rattle.lb_flat.specs.Order.{KeepsRoutineRules, IsVariable, IsFlatInOrder, IsPlacedName, IsInRegister, IsPlacedCode, IsPlacedInOrder}
use Rattle.lb_flat.proofs.CallPathLemmas.{calls_none, only_one_call, not_recursive}

-- ---- a flat program

-- `init` calls a function that gives its argument back; `loop` is empty
abbrev first : Routine ℕ
first = record { variables = 2; params = []; results = []; body = chain (Plain (Constant 5) [] (0 ∷ []) ∷ Plain (Call 2) (0 ∷ []) (1 ∷ []) ∷ []) }

abbrev second : Routine ℕ
second = record { variables = 0; params = []; results = []; body = Nothing }

abbrev third : Routine ℕ
third = record { variables = 1; params = 0 ∷ []; results = 0 ∷ []; body = Nothing }

abbrev functions : List (Routine ℕ)
functions = first ∷ second ∷ third ∷ []

abbrev one : (n x : ℕ) → x < n → All (IsVariable n) (x ∷ [])
one n x h = All-cons (IsVariable n) x [] h (All-nil (IsVariable n))

first_keeps : KeepsRoutineRules IsVariable functions first
first_keeps = record {
  params = All-nil (IsVariable 2);
  results = All-nil (IsVariable 2);
  names = ((All-nil (IsVariable 2), one 2 0 (omega arith)), ((one 2 0 (omega arith), one 2 1 (omega arith)), tt));
  shapes = ((omega arith, refl, refl), ((refl, refl), tt));
  few_params = omega arith;
  few_results = omega arith;
  block_sizes = All-nil IsBlockSize;
  frame = omega arith;
}

second_keeps : KeepsRoutineRules IsVariable functions second
second_keeps = record {
  params = All-nil (IsVariable 0);
  results = All-nil (IsVariable 0);
  names = tt;
  shapes = tt;
  few_params = omega arith;
  few_results = omega arith;
  block_sizes = All-nil IsBlockSize;
  frame = omega arith;
}

third_keeps : KeepsRoutineRules IsVariable functions third
third_keeps = record {
  params = one 1 0 (omega arith);
  results = one 1 0 (omega arith);
  names = tt;
  shapes = tt;
  few_params = omega arith;
  few_results = omega arith;
  block_sizes = All-nil IsBlockSize;
  frame = omega arith;
}

only_third : (g h : ℕ) → Contains (callees_of (slice_get functions g)) h → h ≡ 2
only_third zero h c = is c
  where
    is : Contains (2 ∷ []) h → h ≡ 2
    is (zero, lt, e) = sym e
    is (suc k, lt, e) = absurd (omega (arith, lt))
only_third (suc zero) h c = absurd (calls_none functions 1 h refl c)
only_third (suc (suc zero)) h c = absurd (calls_none functions 2 h refl c)
only_third (suc (suc (suc g))) h c = absurd (calls_none functions (suc (suc (suc g))) h refl c)

small_frame : (g : ℕ) → frame_of (slice_get functions g) ≤ 68
small_frame zero = omega arith
small_frame (suc zero) = omega arith
small_frame (suc (suc zero)) = omega arith
small_frame (suc (suc (suc g))) = omega arith

shallow : (path : List ℕ) → IsCallPath functions path → path_need functions path ≤ 65536
shallow [] k = omega arith
shallow (g ∷ []) k = omega (arith, small_frame g)
shallow (g ∷ h ∷ []) k = omega (arith, small_frame g, small_frame h)
shallow (g ∷ h ∷ i ∷ path) k = absurd (only_one_call ℕ functions 2 refl only_third g h i k.1 k.2.1)

all_keep : All (KeepsRoutineRules IsVariable functions) functions
all_keep =
    let Keeps : Routine ℕ → Type 0 = KeepsRoutineRules IsVariable functions in
    All-cons Keeps first (second ∷ third ∷ []) first_keeps (All-cons Keeps second (third ∷ []) second_keeps (All-cons Keeps third [] third_keeps (All-nil Keeps)))

flat_in_order : IsFlatInOrder (record { routines = functions; init = 0; again = 1 })
flat_in_order = record {
  few_functions = omega arith;
  init = (refl, refl);
  again = (refl, refl);
  routines = all_keep;
  no_recursion = λ g lt r. not_recursive ℕ functions 2 refl only_third g r;
  code = omega arith;
  stack = shallow;
}

-- ---- a placed program

-- `init` puts a number into a slot and gets it back; `loop` is empty
abbrev moves : Routine Place
moves = record {
  variables = 1;
  params = [];
  results = [];
  body = chain (Plain (Constant 5) [] (Register 30 ∷ []) ∷ Plain Copy (Register 30 ∷ []) (Slot 0 ∷ []) ∷ Plain Copy (Slot 0 ∷ []) (Register 18 ∷ []) ∷ []);
}

abbrev idles : Routine Place
idles = record { variables = 0; params = []; results = []; body = Nothing }

abbrev placed_functions : List (Routine Place)
placed_functions = moves ∷ idles ∷ []

abbrev one_place : (n : ℕ) (p : Place) → IsPlacedName n p → All (IsPlacedName n) (p ∷ [])
one_place n p h = All-cons (IsPlacedName n) p [] h (All-nil (IsPlacedName n))

moves_keeps : KeepsRoutineRules IsPlacedName placed_functions moves
moves_keeps =
    let scratch = one_place 1 (Register 30) (inr (inl refl)) in
    let slot = one_place 1 (Slot 0) (omega arith) in
    let variable = one_place 1 (Register 18) (inl (omega arith, omega arith)) in
    record {
      params = All-nil (IsPlacedName 1);
      results = All-nil (IsPlacedName 1);
      names = ((All-nil (IsPlacedName 1), scratch), ((scratch, slot), ((slot, variable), tt)));
      shapes = ((omega arith, refl, refl), ((refl, refl), ((refl, refl), tt)));
      few_params = omega arith;
      few_results = omega arith;
      block_sizes = All-nil IsBlockSize;
      frame = omega arith;
    }

idles_keeps : KeepsRoutineRules IsPlacedName placed_functions idles
idles_keeps = record {
  params = All-nil (IsPlacedName 0);
  results = All-nil (IsPlacedName 0);
  names = tt;
  shapes = tt;
  few_params = omega arith;
  few_results = omega arith;
  block_sizes = All-nil IsBlockSize;
  frame = omega arith;
}

nobody_called : (g h : ℕ) → Contains (callees_of (slice_get placed_functions g)) h → ⊥
nobody_called zero h c = absurd (omega (arith, c.1))
nobody_called (suc zero) h c = absurd (omega (arith, c.1))
nobody_called (suc (suc g)) h c = absurd (omega (arith, c.1))

no_circle : (g : ℕ) → IsRecursive placed_functions g → ⊥
no_circle g ([], k) = nobody_called g g k.1
no_circle g (h ∷ path, k) = nobody_called g h k.1

small_placed_frame : (g : ℕ) → frame_of (slice_get placed_functions g) ≤ 64
small_placed_frame zero = omega arith
small_placed_frame (suc zero) = omega arith
small_placed_frame (suc (suc g)) = omega arith

placed_shallow : (path : List ℕ) → IsCallPath placed_functions path → path_need placed_functions path ≤ 65536
placed_shallow [] k = omega arith
placed_shallow (g ∷ []) k = omega (arith, small_placed_frame g)
placed_shallow (g ∷ h ∷ path) k = absurd (nobody_called g h k.1)

placed_forms : All (λ f. IsPlacedCode f.body) placed_functions
placed_forms =
    let Has : Routine Place → Type 0 = λ f. IsPlacedCode f.body in
    All-cons Has moves (idles ∷ []) ((All-nil IsInRegister, All-cons IsInRegister (Register 30) [] tt (All-nil IsInRegister)), (tt, (tt, tt)))
    (All-cons Has idles [] tt (All-nil Has))

all_placed_keep : All (KeepsRoutineRules IsPlacedName placed_functions) placed_functions
all_placed_keep =
    let Keeps : Routine Place → Type 0 = KeepsRoutineRules IsPlacedName placed_functions in
    All-cons Keeps moves (idles ∷ []) moves_keeps (All-cons Keeps idles [] idles_keeps (All-nil Keeps))

placed_in_order : IsPlacedInOrder (record { routines = placed_functions; init = 0; again = 1 })
placed_in_order = record {
  rules = record {
    few_functions = omega arith;
    init = (refl, refl);
    again = (refl, refl);
    routines = all_placed_keep;
    no_recursion = λ g lt r. no_circle g r;
    code = omega arith;
    stack = placed_shallow;
  };
  forms = placed_forms;
}
