-- Which functions the program has, and who calls whom.
use Rattle.std.proofs.Common.{◌≡◌, ℕ, zero, suc, ◌+◌, ◌<◌, inl, inr, ◌⊎◌, List, [], ◌∷◌, ◌++◌, map, Contains, refl, ◌∙◌, ap, subst, arith, codes}
use Rattle.std.specs.List.{range_with_len}
use Rattle.std.proofs.lemmas.List.Elements.{Contains-append_cases, Contains-append_left, Contains-append_right}
use Rattle.lb_syntax.specs.Tree.{Procedure}
use Rattle.lb_builders.proofs.ProgramLemmas.{Within, here, later, is_within, contained, only, other_name}
use Rattle.lb_gen.specs.Made.{function_name, numbered_function, numbered_functions, init_function, loop_function, entry_functions}
use Rattle.lb_gen.proofs.NameLemmas.{same_name}

-- an element of a list by numbers
numbered_in : {X : Type 0} → (f : ℕ → X) (a n : ℕ) (x : X) → Within x (map f (range_with_len a n)) → (j : ℕ) × (j < a + n) × (f j ≡ x)
numbered_in f a zero x w = elim w [ ]
numbered_in f a (suc n) x (here e) = (a, omega arith, e)
numbered_in f a (suc n) x (later w) =
    let r : (j : ℕ) × (j < (a + 1) + n) × (f j ≡ x) = numbered_in f (a + 1) n x w in
    let z : r.0 < a + suc n = omega (arith, r.1) in
    (r.0, z, r.2)

in_numbered : {X : Type 0} → (f : ℕ → X) (a n j : ℕ) → j < n → Within (f (a + j)) (map f (range_with_len a n))
in_numbered f a zero j h = absurd (omega (arith, h))
in_numbered {X} f a (suc n) zero h = let e : a ≡ a + 0 = omega arith in here (ap f e)
in_numbered {X} f a (suc n) (suc j) h =
    let e : (a + 1) + j ≡ a + suc j = omega arith in
    let l : j < n = omega (arith, h) in
    subst (λ (k : ℕ). Within (f k) (map f (range_with_len a (suc n)))) e (later (in_numbered f (a + 1) n j l))

-- the program
abbrev pub whole : (ℕ → ℕ) → List Procedure
whole draws = numbered_functions draws 64 ++ entry_functions draws

-- which function of the program it is
pub data Member (draws : ℕ → ℕ) (f : Procedure) : Type 0 where
  numbered : (j : ℕ) → j < 64 → numbered_function draws j ≡ f → Member draws f
  starts : init_function (draws 448) (draws 449) ≡ f → Member draws f
  goes_on : loop_function ≡ f → Member draws f

pub member : (draws : ℕ → ℕ) (f : Procedure) → Contains (whole draws) f → Member draws f
member draws f c = by (Contains-append_cases (numbered_functions draws 64) (entry_functions draws) f c)
  where
    last : Within f (loop_function ∷ []) → Member draws f
    last w = goes_on (only loop_function f w)

    rest : Within f (entry_functions draws) → Member draws f
    rest (here e) = starts e
    rest (later w) = last w

    by : Contains (numbered_functions draws 64) f ⊎ Contains (entry_functions draws) f → Member draws f
    by (inl c) =
        let r : (j : ℕ) × (j < 0 + 64) × (numbered_function draws j ≡ f) = numbered_in (numbered_function draws) 0 64 f (is_within (numbered_functions draws 64) f c) in
        let z : r.0 < 64 = omega (arith, r.1) in
        numbered r.0 z r.2
    by (inr c) = rest (is_within (entry_functions draws) f c)

pub has_numbered : (draws : ℕ → ℕ) (j : ℕ) → j < 64 → Contains (whole draws) (numbered_function draws j)
has_numbered draws j h =
    let e : 0 + j ≡ j = omega arith in
    let w : Within (numbered_function draws (0 + j)) (numbered_functions draws 64) = in_numbered (numbered_function draws) 0 64 j h in
    Contains-append_left (numbered_functions draws 64) (entry_functions draws) (numbered_function draws j)
    (contained (numbered_functions draws 64) (numbered_function draws j) (subst (λ (k : ℕ). Within (numbered_function draws k) (numbered_functions draws 64)) e w))

pub has_init : (draws : ℕ → ℕ) → Contains (whole draws) (init_function (draws 448) (draws 449))
has_init draws = Contains-append_right (numbered_functions draws 64) (entry_functions draws) (init_function (draws 448) (draws 449)) (zero, omega arith, refl)

pub has_loop : (draws : ℕ → ℕ) → Contains (whole draws) loop_function
has_loop draws = Contains-append_right (numbered_functions draws 64) (entry_functions draws) loop_function (1, omega arith, refl)

-- whoever has a numbered function's name is that function
pub by_name : (draws : ℕ → ℕ) (f : Procedure) (i : ℕ) → i < 64 → Contains (whole draws) f → f.name ≡ function_name i → numbered_function draws i ≡ f
by_name draws f i h c e = by (member draws f c)
  where
    by : Member draws f → numbered_function draws i ≡ f
    by (numbered j l m) =
        let n : function_name j ≡ function_name i = ap (λ (g : Procedure). g.name) m ∙ e in
        subst (λ (k : ℕ). numbered_function draws k ≡ f) (same_name j i l h n) m
    by (starts m) = absurd (other_name (codes "init") (function_name i) refl (ap (λ (g : Procedure). g.name) m ∙ e))
    by (goes_on m) = absurd (other_name (codes "loop") (function_name i) refl (ap (λ (g : Procedure). g.name) m ∙ e))
