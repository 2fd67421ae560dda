-- The variables on a walk through a function that names its own variables are the function's.
use Rattle.std.proofs.Common.{◌≡◌, ℕ, ◌<◌, Bool, true, false, not, ◌&&◌, ◌||◌, List, [], ◌∷◌, ◌++◌, refl, subst, eqb-true, sym}
use Rattle.std.specs.Prelude.{◌==◌}
use Rattle.std.specs.List.{AllByRecursion}
use Rattle.lb_flat.specs.Code.{Code, Plain, Reserve, Branch, Loop, Nothing, Sequence, Routine}
use Rattle.lb_flat.specs.Order.{IsVariable, EachName, KeepsRoutineRules}
use Rattle.lb_flat.specs.Walks.{Step, step, IsWalk, does, reserves, takes_yes, takes_no, leaves, goes_round, ends, follows, IsWalkOf, through, among, is_read_first}
use Rattle.lb_flat.proofs.BooleanLemmas.{or_second, by_test}
use Rattle.lb_flat.proofs.FlatForms.{by_elements}

-- a step that names variables below n
abbrev IsBelow : ℕ → Step → Type 0
IsBelow n s = AllByRecursion (IsVariable n) s.reads × AllByRecursion (IsVariable n) s.sets

abbrev pub AreBelow : ℕ → List Step → Type 0
AreBelow n = AllByRecursion (IsBelow n)

join : (n : ℕ) (w v : List Step) → AreBelow n w → AreBelow n v → AreBelow n (w ++ v)
join n [] v h k = k
join n (s ∷ w) v h k = (h.0, join n w v h.1 k)

steps_below : (n : ℕ) {c : Code ℕ} {w : List Step} → EachName (IsVariable n) c → IsWalk c w → AreBelow n w
steps_below n h (does {o} {xs} {ys}) = ((by_elements (IsVariable n) xs h.0, by_elements (IsVariable n) ys h.1), tt)
steps_below n h (reserves k) = ((tt, (h.0, tt)), steps_below n h.1 k)
steps_below n h (takes_yes k) = (((h.0, tt), tt), steps_below n h.1 k)
steps_below n h (takes_no k) = (((h.0, tt), tt), steps_below n h.2 k)
steps_below n h (leaves {c} {b} {d} {w} k) = join n w (step (c ∷ []) [] ∷ []) (steps_below n h.0 k) (((h.1, tt), tt), tt)
steps_below n h (goes_round {c} {b} {d} {w} {v} {u} k j i) =
    join n w (step (c ∷ []) [] ∷ (v ++ u)) (steps_below n h.0 k) (((h.1, tt), tt), join n v u (steps_below n h.2 j) (steps_below n h i))
steps_below n h ends = tt
steps_below n h (follows {c} {d} {w} {v} k j) = join n w v (steps_below n h.0 k) (steps_below n h.1 j)

pub walk_below : (fs : List (Routine ℕ)) (f : Routine ℕ) → KeepsRoutineRules IsVariable fs f → {w : List Step} → IsWalkOf f w → AreBelow f.variables w
walk_below fs f keeps (through {w} k) =
    let n = f.variables in
    ((tt, by_elements (IsVariable n) f.params keeps.params), join n w (step f.results [] ∷ []) (steps_below n keeps.names k) ((by_elements (IsVariable n) f.results keeps.results, tt), tt))

-- ---- one variable

among_below : (n x : ℕ) (ys : List ℕ) → AllByRecursion (IsVariable n) ys → among ys x ≡ true → x < n
among_below n x [] h m = absurd (cc)
among_below n x (y ∷ ys) h m =
    by_test (x == y) (λ t. subst (λ (z : ℕ). z < n) (sym (eqb-true x y t)) h.0) (λ none. among_below n x ys h.1 (or_second (x == y) (among ys x) none m))

pub read_below : (n x : ℕ) (w : List Step) → AreBelow n w → is_read_first x w ≡ true → x < n
read_below n x [] h m = absurd (cc)
read_below n x (s ∷ w) h m = by_test (among s.reads x) (λ t. among_below n x s.reads h.0.0 t) (λ none. read_below n x w h.1 (rest (among s.reads x) (among s.sets x) (is_read_first x w) none m))
  where
    rest : (a b c : Bool) → a ≡ false → (a || (not b && c)) ≡ true → c ≡ true
    rest true b c none e = cc
    rest false true c none e = cc
    rest false false c none e = e

-- at a cut of a walk: what is set there, and what is read first behind it
pub set_below : (n u : ℕ) (past future : List Step) (s : Step) → AreBelow n (past ++ s ∷ future) → among s.sets u ≡ true → u < n
set_below n u [] future s h m = among_below n u s.sets h.0.1 m
set_below n u (p ∷ past) future s h m = set_below n u past future s h.1 m

pub behind_below : (n x : ℕ) (past future : List Step) (s : Step) → AreBelow n (past ++ s ∷ future) → is_read_first x future ≡ true → x < n
behind_below n x [] future s h m = read_below n x future h.1 m
behind_below n x (p ∷ past) future s h m = behind_below n x past future s h.1 m
