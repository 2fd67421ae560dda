-- What proofs of built programs share: elements of lists, names, entries and paths of calls.
use Rattle.std.proofs.Common.{◌≡◌, ℕ, zero, suc, ◌+◌, ◌<◌, inl, inr, true, false, List, [], ◌∷◌, length, map, Contains, sym, ◌∙◌, ap, arith, codes, slice_index_or}
use Rattle.std.specs.Str.{bytes_eq}
use Rattle.std.proofs.lemmas.Slice.Eq.{bytes_eq-Decides}
use Rattle.std.proofs.lemmas.List.Sums.{sum_by-cons}
use Rattle.lb_syntax.specs.Names.{Text}
use Rattle.lb_syntax.specs.Tree.{Procedure}
use Rattle.lb_syntax.specs.Needs.{frame_need}
use Rattle.lb_syntax.specs.Calls.{IsCallPath, path_need}
use Rattle.lb_syntax.specs.Rules.{IsEntry, HasEntryShape}

-- ---- elements of a list

pub data Within {X : Type 0} (x : X) : List X → Type 0 where
  here : {xs : List X} → {y : X} → y ≡ x → Within x (y ∷ xs)
  later : {xs : List X} → {y : X} → Within x xs → Within x (y ∷ xs)

within : {X : Type 0} → (xs : List X) (x : X) (k : ℕ) → k < length xs → slice_index_or xs k x ≡ x → Within x xs
within [] x k h e = absurd (omega arith)
within (y ∷ xs) x zero h e = here e
within (y ∷ xs) x (suc k) h e = let z : k < length xs = omega (arith, h) in later (within xs x k z e)

pub is_within : {X : Type 0} → (xs : List X) (x : X) → Contains xs x → Within x xs
is_within xs x c = within xs x c.0 c.1 c.2

pub contained : {X : Type 0} → (xs : List X) (x : X) → Within x xs → Contains xs x
contained [] x w = elim w [ ]
contained (y ∷ xs) x (here e) = (zero, omega arith, e)
contained (y ∷ xs) x (later w) =
    let c : Contains xs x = contained xs x w in
    let z : suc c.0 < length (y ∷ xs) = omega (arith, c.1) in
    (suc c.0, z, c.2)

pub mapped : {X Y : Type 0} → (f : X → Y) (xs : List X) (x : X) → Within x xs → Within (f x) (map f xs)
mapped f [] x w = elim w [ ]
mapped f (y ∷ xs) x (here e) = here (ap f e)
mapped f (y ∷ xs) x (later w) = later (mapped f xs x w)

pub only : {X : Type 0} → (y x : X) → Within x (y ∷ []) → y ≡ x
only y x (here e) = e
only y x (later w) = elim w [ ]

-- ---- names and entries

-- names that differ
pub other_name : (x y : Text) → bytes_eq x y ≡ false → x ≡ y → ⊥
other_name x y h e = let z : bytes_eq x y ≡ true = (bytes_eq-Decides x y).1 e in let f : true ≡ false = sym z ∙ h in cc

-- a function that isn't called from outside may have any shape
pub no_entry : (f : Procedure) → bytes_eq f.name (codes "init") ≡ false → bytes_eq f.name (codes "loop") ≡ false → HasEntryShape f
no_entry f h i = λ e. absurd (neither e)
  where
    neither : IsEntry f → ⊥
    neither (inl e) = other_name f.name (codes "init") h e
    neither (inr e) = other_name f.name (codes "loop") i e

-- ---- paths of calls

-- the first function of a path is one of the program's
pub first_in : (p : List Procedure) (f : Procedure) (path : List Procedure) → IsCallPath p (f ∷ path) → Contains p f
first_in p f [] h = h
first_in p f (g ∷ path) h = h.0

-- what a path takes of the stack, by its first function
pub sum_more : (f : Procedure) (path : List Procedure) → path_need (f ∷ path) ≡ frame_need f + path_need path
sum_more f path = sum_by-cons (λ n. n) (frame_need f) (map frame_need path)
