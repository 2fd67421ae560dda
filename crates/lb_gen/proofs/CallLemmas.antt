-- Calls go down in the program, and what a path of calls takes of the stack.
use Rattle.std.proofs.Common.{◌≡◌, ℕ, zero, suc, ◌+◌, ◌*◌, ◌<◌, ◌≤◌, List, [], ◌∷◌, ◌++◌, Contains, refl, sym, ap, subst, arith, codes}
use Rattle.lb_syntax.specs.Names.{Text}
use Rattle.lb_syntax.specs.Tree.{Procedure}
use Rattle.lb_syntax.specs.Needs.{frame_need}
use Rattle.lb_syntax.specs.Calls.{callees, IsCallPath, IsRecursive, path_need, IsStackNeed}
use Rattle.lb_gen.specs.Made.{function_name, numbered_function, init_function, loop_function}
use Rattle.lb_gen.proofs.NameLemmas.{same_name}
use Rattle.lb_builders.proofs.ProgramLemmas.{Within, is_within, only, other_name, first_in, sum_more}
use Rattle.lb_gen.proofs.Members.{whole, Member, numbered, starts, goes_on, member, has_numbered, has_init, by_name}

-- ---- one call

-- a function that is called right after the one of number j
record Before (draws : ℕ → ℕ) (j : ℕ) (g : Procedure) : Type 0 where
  number : ℕ
  is_before : j ≡ suc number
  is_small : number < 64
  is : numbered_function draws number ≡ g

calls_before_it : (draws : ℕ → ℕ) (j : ℕ) (x : Text) → Within x (callees (numbered_function draws j)) → (i : ℕ) × (j ≡ suc i) × (function_name i ≡ x)
calls_before_it draws zero x w = elim w [ ]
calls_before_it draws (suc i) x w = (i, refl, only (function_name i) x w)

calls_down : (draws : ℕ → ℕ) (j : ℕ) (g : Procedure) → j < 64 → Contains (whole draws) g → Contains (callees (numbered_function draws j)) g.name → Before draws j g
calls_down draws j g h c d =
    let r : (i : ℕ) × (j ≡ suc i) × (function_name i ≡ g.name) = calls_before_it draws j g.name (is_within _ g.name d) in
    let e : j ≡ suc r.0 = r.1 in
    let z : r.0 < 64 = omega (arith, h, e) in
    record { number = r.0; is_before = e; is_small = z; is = by_name draws g r.0 z c (sym r.2) }

pub init_calls : (draws : ℕ → ℕ) (g : Procedure) → Contains (whole draws) g → Contains (callees (init_function (draws 448) (draws 449))) g.name → numbered_function draws 63 ≡ g
init_calls draws g c d =
    let w : function_name 63 ≡ g.name = only (function_name 63) g.name (is_within _ g.name d) in
    by_name draws g 63 (omega arith) c (sym w)

loop_calls : (x : Text) → Contains (callees loop_function) x → ⊥
loop_calls x d = let w : Within x [] = is_within _ x d in elim w [ ]

-- ---- paths of calls

-- where a path from a function leads
ends_before : (draws : ℕ → ℕ) (j : ℕ) (path : List Procedure) (g : Procedure) → j < 64 → IsCallPath (whole draws) (numbered_function draws j ∷ path ++ g ∷ []) → (k : ℕ) × (k < j) × (numbered_function draws k ≡ g)
ends_before draws j [] g h p =
    let b : Before draws j g = calls_down draws j g h p.2 p.1 in
    let e : j ≡ suc b.number = b.is_before in
    let z : b.number < j = omega (arith, e) in
    (b.number, z, b.is)
ends_before draws j (f ∷ path) g h p =
    let b : Before draws j f = calls_down draws j f h (first_in (whole draws) f (path ++ g ∷ []) p.2) p.1 in
    let q : IsCallPath (whole draws) (numbered_function draws b.number ∷ path ++ g ∷ []) = subst (λ (x : Procedure). IsCallPath (whole draws) (x ∷ path ++ g ∷ [])) (sym b.is) p.2 in
    let r : (k : ℕ) × (k < b.number) × (numbered_function draws k ≡ g) = ends_before draws b.number path g b.is_small q in
    let e : j ≡ suc b.number = b.is_before in
    let z : r.0 < j = omega (arith, e, r.1) in
    (r.0, z, r.2)

pub never_back : (draws : ℕ → ℕ) (j : ℕ) → j < 64 → ¬ (IsRecursive (whole draws) (numbered_function draws j))
never_back draws j h r =
    let e : (k : ℕ) × (k < j) × (numbered_function draws k ≡ numbered_function draws j) = ends_before draws j r.0 (numbered_function draws j) h r.1 in
    let l : e.0 < 64 = omega (arith, h, e.1) in
    let n : function_name e.0 ≡ function_name j = ap (λ (g : Procedure). g.name) e.2 in
    let s : e.0 ≡ j = same_name e.0 j l h n in
    omega (arith, e.1, s)

pub init_never_back : (draws : ℕ → ℕ) → ¬ (IsRecursive (whole draws) (init_function (draws 448) (draws 449)))
init_never_back draws r = by r.0 r.1
  where
    by : (path : List Procedure) → IsCallPath (whole draws) (init_function (draws 448) (draws 449) ∷ path ++ init_function (draws 448) (draws 449) ∷ []) → ⊥
    by [] p =
        let e : numbered_function draws 63 ≡ init_function (draws 448) (draws 449) = init_calls draws _ p.2 p.1 in
        other_name (function_name 63) (codes "init") refl (ap (λ (g : Procedure). g.name) e)
    by (f ∷ path) p =
        let e : numbered_function draws 63 ≡ f = init_calls draws f (first_in (whole draws) f (path ++ init_function (draws 448) (draws 449) ∷ []) p.2) p.1 in
        let q : IsCallPath (whole draws) (numbered_function draws 63 ∷ path ++ init_function (draws 448) (draws 449) ∷ []) = subst (λ (x : Procedure). IsCallPath (whole draws) (x ∷ path ++ init_function (draws 448) (draws 449) ∷ [])) (sym e) p.2 in
        let r : (k : ℕ) × (k < 63) × (numbered_function draws k ≡ init_function (draws 448) (draws 449)) = ends_before draws 63 path _ (omega arith) q in
        other_name (function_name r.0) (codes "init") refl (ap (λ (g : Procedure). g.name) r.2)

pub loop_never_back : (draws : ℕ → ℕ) → ¬ (IsRecursive (whole draws) loop_function)
loop_never_back draws r = by r.0 r.1
  where
    by : (path : List Procedure) → IsCallPath (whole draws) (loop_function ∷ path ++ loop_function ∷ []) → ⊥
    by [] p = loop_calls loop_function.name p.1
    by (f ∷ path) p = loop_calls f.name p.1

-- ---- the stack

pub frame_is : (draws : ℕ → ℕ) (j : ℕ) → frame_need (numbered_function draws j) ≡ 164
frame_is draws zero = refl
frame_is draws (suc i) = refl

nothing_taken : path_need [] ≡ 0
nothing_taken = refl

-- a path from the function of number j takes no more than j + 1 frames
path_small : (draws : ℕ → ℕ) (j : ℕ) (path : List Procedure) → j < 64 → IsCallPath (whole draws) (numbered_function draws j ∷ path) → path_need (numbered_function draws j ∷ path) ≤ 164 * (j + 1)
path_small draws j [] h p =
    let e : path_need (numbered_function draws j ∷ []) ≡ frame_need (numbered_function draws j) + path_need [] = sum_more (numbered_function draws j) [] in
    let f : frame_need (numbered_function draws j) ≡ 164 = frame_is draws j in
    let n : path_need [] ≡ 0 = nothing_taken in
    omega (arith, e, f, n)
path_small draws j (g ∷ path) h p =
    let b : Before draws j g = calls_down draws j g h (first_in (whole draws) g path p.2) p.1 in
    let q : IsCallPath (whole draws) (numbered_function draws b.number ∷ path) = subst (λ (x : Procedure). IsCallPath (whole draws) (x ∷ path)) (sym b.is) p.2 in
    let l : path_need (numbered_function draws b.number ∷ path) ≤ 164 * (b.number + 1) = path_small draws b.number path b.is_small q in
    let m : path_need (g ∷ path) ≤ 164 * (b.number + 1) = subst (λ (x : Procedure). path_need (x ∷ path) ≤ 164 * (b.number + 1)) b.is l in
    let e : path_need (numbered_function draws j ∷ g ∷ path) ≡ frame_need (numbered_function draws j) + path_need (g ∷ path) = sum_more (numbered_function draws j) (g ∷ path) in
    let f : frame_need (numbered_function draws j) ≡ 164 = frame_is draws j in
    let z : j ≡ suc b.number = b.is_before in
    omega (arith, e, f, m, z)

-- a path from each of the functions
numbered_path : (draws : ℕ → ℕ) (j : ℕ) (path : List Procedure) → j < 64 → IsCallPath (whole draws) (numbered_function draws j ∷ path) → path_need (numbered_function draws j ∷ path) ≤ 10640
numbered_path draws j path h p =
    let l : path_need (numbered_function draws j ∷ path) ≤ 164 * (j + 1) = path_small draws j path h p in
    omega (arith, h, l)

init_path : (draws : ℕ → ℕ) (path : List Procedure) → IsCallPath (whole draws) (init_function (draws 448) (draws 449) ∷ path) → path_need (init_function (draws 448) (draws 449) ∷ path) ≤ 10640
init_path draws [] p =
    let e : path_need (init_function (draws 448) (draws 449) ∷ []) ≡ 144 + path_need [] = sum_more (init_function (draws 448) (draws 449)) [] in
    let n : path_need [] ≡ 0 = nothing_taken in
    omega (arith, e, n)
init_path draws (g ∷ path) p =
    let s : numbered_function draws 63 ≡ g = init_calls draws g (first_in (whole draws) g path p.2) p.1 in
    let q : IsCallPath (whole draws) (numbered_function draws 63 ∷ path) = subst (λ (x : Procedure). IsCallPath (whole draws) (x ∷ path)) (sym s) p.2 in
    let l : path_need (numbered_function draws 63 ∷ path) ≤ 164 * (63 + 1) = path_small draws 63 path (omega arith) q in
    let m : path_need (g ∷ path) ≤ 164 * (63 + 1) = subst (λ (x : Procedure). path_need (x ∷ path) ≤ 164 * (63 + 1)) s l in
    let e : path_need (init_function (draws 448) (draws 449) ∷ g ∷ path) ≡ 144 + path_need (g ∷ path) = sum_more (init_function (draws 448) (draws 449)) (g ∷ path) in
    omega (arith, e, m)

loop_path : (draws : ℕ → ℕ) (path : List Procedure) → IsCallPath (whole draws) (loop_function ∷ path) → path_need (loop_function ∷ path) ≤ 10640
loop_path draws [] p =
    let e : path_need (loop_function ∷ []) ≡ 136 + path_need [] = sum_more loop_function [] in
    let n : path_need [] ≡ 0 = nothing_taken in
    omega (arith, e, n)
loop_path draws (g ∷ path) p = absurd (loop_calls g.name p.1)

pub path_most : (draws : ℕ → ℕ) (path : List Procedure) → IsCallPath (whole draws) path → path_need path ≤ 10640
path_most draws [] p = let n : path_need [] ≡ 0 = nothing_taken in omega (arith, n)
path_most draws (f ∷ path) p = by (member draws f (first_in (whole draws) f path p))
  where
    by : Member draws f → path_need (f ∷ path) ≤ 10640
    by (numbered j h e) =
        subst (λ (x : Procedure). path_need (x ∷ path) ≤ 10640) e (numbered_path draws j path h (subst (λ (x : Procedure). IsCallPath (whole draws) (x ∷ path)) (sym e) p))
    by (starts e) =
        subst (λ (x : Procedure). path_need (x ∷ path) ≤ 10640) e (init_path draws path (subst (λ (x : Procedure). IsCallPath (whole draws) (x ∷ path)) (sym e) p))
    by (goes_on e) =
        subst (λ (x : Procedure). path_need (x ∷ path) ≤ 10640) e (loop_path draws path (subst (λ (x : Procedure). IsCallPath (whole draws) (x ∷ path)) (sym e) p))

-- the path that takes it all: from `init` down to the first function
abbrev all_below : (ℕ → ℕ) → ℕ → List Procedure
all_below draws zero = []
all_below draws (suc i) = numbered_function draws i ∷ all_below draws i

below_taken : (draws : ℕ → ℕ) (n : ℕ) → path_need (all_below draws n) ≡ 164 * n
below_taken draws zero = refl
below_taken draws (suc i) =
    let e : path_need (all_below draws (suc i)) ≡ frame_need (numbered_function draws i) + path_need (all_below draws i) = sum_more (numbered_function draws i) (all_below draws i) in
    let f : frame_need (numbered_function draws i) ≡ 164 = frame_is draws i in
    let m : path_need (all_below draws i) ≡ 164 * i = below_taken draws i in
    omega (arith, e, f, m)

below_path : (draws : ℕ → ℕ) (j : ℕ) → j < 64 → IsCallPath (whole draws) (numbered_function draws j ∷ all_below draws j)
below_path draws zero h = has_numbered draws zero h
below_path draws (suc i) h =
    let z : i < 64 = omega (arith, h) in
    (has_numbered draws (suc i) h, (zero, omega arith, refl), below_path draws i z)

pub stack_is : (draws : ℕ → ℕ) → IsStackNeed (whole draws) 10640
stack_is draws =
    let m : path_need (all_below draws 64) ≡ 164 * 64 = below_taken draws 64 in
    let e : path_need (init_function (draws 448) (draws 449) ∷ all_below draws 64) ≡ 144 + path_need (all_below draws 64) = sum_more (init_function (draws 448) (draws 449)) (all_below draws 64) in
    record {
      path = init_function (draws 448) (draws 449) ∷ all_below draws 64;
      is_path = (has_init draws, (zero, omega arith, refl), below_path draws 63 (omega arith));
      taken = omega (arith, e, m);
      greatest = path_most draws;
    }
