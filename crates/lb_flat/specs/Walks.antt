-- The walks through a flat function: which variables its commands read and set, one after another.
use Rattle.std.specs.Prelude.{ℕ, Bool, false, ◌==◌, ◌||◌, ◌&&◌, not, List, [], ◌∷◌, ◌++◌}
use Rattle.lb_flat.specs.Code.{Operation, Code, Plain, Reserve, Branch, Loop, Nothing, Sequence, Routine}

-- a step of a walk reads these variables and then sets those, all at once; an unset counts as a setting
pub record Step : Type 0 where
  pub reads : List ℕ
  pub sets : List ℕ

abbrev pub step : List ℕ → List ℕ → Step
step reads sets = record { reads = reads; sets = sets }

-- a walk through a command or a block: it takes an `if` either way and a `while` any number of times
pub data IsWalk : Code ℕ → List Step → Type 0 where
  does : {o : Operation} {xs ys : List ℕ} → IsWalk (Plain o xs ys) (step xs ys ∷ [])
  reserves : {n y : ℕ} {b : Code ℕ} {w : List Step} → IsWalk b w → IsWalk (Reserve n y b) (step [] (y ∷ []) ∷ w)
  takes_yes : {c : ℕ} {b d : Code ℕ} {w : List Step} → IsWalk b w → IsWalk (Branch c b d) (step (c ∷ []) [] ∷ w)
  takes_no : {c : ℕ} {b d : Code ℕ} {w : List Step} → IsWalk d w → IsWalk (Branch c b d) (step (c ∷ []) [] ∷ w)
  leaves : {c : ℕ} {b d : Code ℕ} {w : List Step} → IsWalk b w → IsWalk (Loop b c d) (w ++ step (c ∷ []) [] ∷ [])
  goes_round : {c : ℕ} {b d : Code ℕ} {w v u : List Step} → IsWalk b w → IsWalk d v → IsWalk (Loop b c d) u → IsWalk (Loop b c d) (w ++ step (c ∷ []) [] ∷ (v ++ u))
  ends : IsWalk Nothing []
  follows : {c d : Code ℕ} {w v : List Step} → IsWalk c w → IsWalk d v → IsWalk (Sequence c d) (w ++ v)

-- a walk through a function begins with its start, which sets the parameters, and ends with its end, which reads the results
pub data IsWalkOf (f : Routine ℕ) : List Step → Type 0 where
  through : {w : List Step} → IsWalk f.body w → IsWalkOf f (step [] f.params ∷ (w ++ step f.results [] ∷ []))

-- the variable is one of these
abbrev pub among : List ℕ → ℕ → Bool
among [] x = false
among (y ∷ ys) x = (x == y) || among ys x

-- on this walk the variable is read before any setting of it
abbrev pub is_read_first : ℕ → List Step → Bool
is_read_first x [] = false
is_read_first x (s ∷ w) = among s.reads x || (not (among s.sets x) && is_read_first x w)
