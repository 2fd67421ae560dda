-- A placed program in order whose greatest frame has 32,768 bytes, so that the law says something: its code is there.
use Rattle.std.proofs.Common.{◌≡◌, ℕ, zero, suc, ◌≤◌, List, [], ◌∷◌, refl, sym, arith, inl, inr, All, Contains, slice_get}
use Rattle.std.proofs.lemmas.List.Elements.{All-nil, All-cons}
use Rattle.lb_syntax.specs.declared.tree.Width.TheVariants.{Four}
use Rattle.lb_syntax.specs.Rules.{IsBlockSize}
use Rattle.lb_flat.specs.declared.places.Place.{Place}
use Rattle.lb_flat.specs.declared.places.Place.TheVariants.{Register, Slot}
use Rattle.lb_flat.specs.Code.{Constant, Copy, Store, Call, Plain, Reserve, Loop, Nothing, chain, Routine, Executable}
use Rattle.lb_flat.specs.Calls.{callees_of, frame_of, IsCallPath, path_need}
use Rattle.lb_flat.specs.Order.{KeepsRoutineRules, IsPlacedName, IsInRegister, IsPlacedCode, IsPlacedInOrder}
use Rattle.lb_flat.proofs.CallPathLemmas.{calls_none, only_one_call, not_recursive}
use Rattle.lb_emit_laws.specs.Frames.{layout_of}
use Rattle.lb_emit_laws.specs.Code.{program_words, program_entry}
use Rattle.lb_emit_laws.specs.Correct.{IsCodeOf}
use Rattle.lb_emit_laws.proofs.TheoremLemmas.{program_words_are_code}

-- `init` has a great block, writes a word of it, and calls a function with a slot as argument and a register as target; `loop` is a loop
-- that ends at once; the third function gives its argument back
abbrev first : Routine Place
first = record {
  variables = 1;
  params = [];
  results = [];
  body = chain (Plain (Constant 5) [] (Register 30 ∷ []) ∷ Plain Copy (Register 30 ∷ []) (Slot 0 ∷ []) ∷ Reserve 32704 (Register 18) (chain (Plain (Store Four) (Register 18 ∷ Register 30 ∷ []) [] ∷ []))
      ∷ Plain (Call 2) (Slot 0 ∷ []) (Register 19 ∷ []) ∷ []);
}

abbrev second : Routine Place
second = record { variables = 0; params = []; results = []; body = Loop (chain (Plain (Constant 0) [] (Register 18 ∷ []) ∷ [])) (Register 18) Nothing }

abbrev third : Routine Place
third = record { variables = 0; params = Register 29 ∷ []; results = Register 29 ∷ []; body = Nothing }

abbrev functions : List (Routine Place)
functions = first ∷ second ∷ third ∷ []

abbrev program : Executable Place
program = record { routines = functions; init = 0; again = 1 }

abbrev one : (n : ℕ) (p : Place) → IsPlacedName n p → All (IsPlacedName n) (p ∷ [])
one n p h = All-cons (IsPlacedName n) p [] h (All-nil (IsPlacedName n))

abbrev two : (n : ℕ) (p q : Place) → IsPlacedName n p → IsPlacedName n q → All (IsPlacedName n) (p ∷ q ∷ [])
two n p q h k = All-cons (IsPlacedName n) p (q ∷ []) h (one n q k)

first_keeps : KeepsRoutineRules IsPlacedName functions first
first_keeps =
    let scratch : IsPlacedName 1 (Register 30) = inr (inl refl) in
    let address : IsPlacedName 1 (Register 18) = inl (omega arith, omega arith) in
    let target : IsPlacedName 1 (Register 19) = inl (omega arith, omega arith) in
    let slot : IsPlacedName 1 (Slot 0) = omega arith in
    let none = All-nil (IsPlacedName 1) in
    record {
      params = none;
      results = none;
      names = (
        (none, one 1 (Register 30) scratch),
        ((one 1 (Register 30) scratch, one 1 (Slot 0) slot), ((address, ((two 1 (Register 18) (Register 30) address scratch, none), tt)), ((one 1 (Slot 0) slot, one 1 (Register 19) target), tt))),
      );
      shapes = ((omega arith, refl, refl), ((refl, refl), ((tt, ((refl, refl), tt)), ((refl, refl), tt))));
      few_params = omega arith;
      few_results = omega arith;
      block_sizes = All-cons IsBlockSize 32704 [] (omega arith, refl) (All-nil IsBlockSize);
      frame = omega arith;
    }

second_keeps : KeepsRoutineRules IsPlacedName functions second
second_keeps =
    let variable : IsPlacedName 0 (Register 18) = inl (omega arith, omega arith) in
    let none = All-nil (IsPlacedName 0) in
    record {
      params = none;
      results = none;
      names = (((none, one 0 (Register 18) variable), tt), variable, tt);
      shapes = (((omega arith, refl, refl), tt), tt, tt);
      few_params = omega arith;
      few_results = omega arith;
      block_sizes = All-nil IsBlockSize;
      frame = omega arith;
    }

third_keeps : KeepsRoutineRules IsPlacedName functions third
third_keeps =
    let variable : IsPlacedName 0 (Register 29) = inl (omega arith, omega arith) in
    record {
      params = one 0 (Register 29) variable;
      results = one 0 (Register 29) variable;
      names = tt;
      shapes = tt;
      few_params = omega arith;
      few_results = omega arith;
      block_sizes = All-nil IsBlockSize;
      frame = omega arith;
    }

forms : All (λ f. IsPlacedCode f.body) functions
forms =
    let Has : Routine Place → Type 0 = λ f. IsPlacedCode f.body in
    let none = All-nil IsInRegister in
    let some : (r : ℕ) → All IsInRegister (Register r ∷ []) = λ r. All-cons IsInRegister (Register r) [] tt none in
    All-cons Has first (second ∷ third ∷ []) ((none, some 30), (tt, ((tt, ((All-cons IsInRegister (Register 18) (Register 30 ∷ []) tt (some 30), none), tt)), (tt, tt))))
    (All-cons Has second (third ∷ []) (((none, some 18), tt), tt, tt) (All-cons Has third [] tt (All-nil Has)))

-- ---- calls

only_third : (g h : ℕ) → Contains (callees_of (slice_get functions g)) h → h ≡ 2
only_third zero h c = is c
  where
    is : Contains (2 ∷ []) h → h ≡ 2
    is (zero, lt, e) = sym e
    is (suc k, lt, e) = absurd (omega (arith, lt))
only_third (suc zero) h c = absurd (calls_none functions 1 h refl c)
only_third (suc (suc zero)) h c = absurd (calls_none functions 2 h refl c)
only_third (suc (suc (suc g))) h c = absurd (calls_none functions (suc (suc (suc g))) h refl c)

frame_at_most : (g : ℕ) → frame_of (slice_get functions g) ≤ 32768
frame_at_most zero = omega arith
frame_at_most (suc zero) = omega arith
frame_at_most (suc (suc zero)) = omega arith
frame_at_most (suc (suc (suc g))) = omega arith

shallow : (path : List ℕ) → IsCallPath functions path → path_need functions path ≤ 65536
shallow [] k = omega arith
shallow (g ∷ []) k = omega (arith, frame_at_most g)
shallow (g ∷ h ∷ []) k = omega (arith, frame_at_most g, frame_at_most h)
shallow (g ∷ h ∷ i ∷ path) k = absurd (only_one_call Place functions 2 refl only_third g h i k.1 k.2.1)

-- ---- the program

all_keep : All (KeepsRoutineRules IsPlacedName functions) functions
all_keep =
    let Keeps : Routine Place → Type 0 = KeepsRoutineRules IsPlacedName functions in
    All-cons Keeps first (second ∷ third ∷ []) first_keeps (All-cons Keeps second (third ∷ []) second_keeps (All-cons Keeps third [] third_keeps (All-nil Keeps)))

in_order : IsPlacedInOrder program
in_order = record {
  rules = record {
    few_functions = omega arith;
    init = (refl, refl);
    again = (refl, refl);
    routines = all_keep;
    no_recursion = λ g lt r. not_recursive Place functions 2 refl only_third g r;
    code = omega arith;
    stack = shallow;
  };
  forms = forms;
}

example : IsCodeOf program (program_words program) (layout_of program) program_entry
example = program_words_are_code program in_order
