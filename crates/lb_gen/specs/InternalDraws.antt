-- Places in a stream of draws. Cited by private contracts alone.
use Rattle.std.specs.Prelude.{◌≡◌, ℕ, ◌+◌, ◌*◌, List}
use Rattle.lb_syntax.specs.Tree.{Procedure}
use Rattle.lb_draws.specs.Draws.{state_after, draw}
use Rattle.lb_gen.specs.declared.drawn.DrawnFunction.{DrawnFunction}
use Rattle.lb_gen.specs.Made.{drawn_function, numbered_functions}

-- the stream of the seed has given so many draws
abbrev pub IsBehind : ℕ → ℕ → ℕ → Type 0
IsBehind seed n state = state ≡ state_after seed 0 n

-- from one state to another the draws of a function are taken, whatever seed and number the first
-- state belongs to
abbrev pub DrawsFunction : ℕ → ℕ → DrawnFunction → Type 0
DrawsFunction before after drawn =
    (seed j : ℕ) → IsBehind seed (7 * j) before
    → (drawn ≡ drawn_function (draw seed 0) j) × IsBehind seed (7 * (j + 1)) after

-- from a seed's first state to another one the draws of n functions are taken, which are these
abbrev pub AreDrawn : ℕ → ℕ → ℕ → List Procedure → Type 0
AreDrawn before after n functions =
    (seed : ℕ) → IsBehind seed 0 before
    → (functions ≡ numbered_functions (draw seed 0) n) × IsBehind seed (7 * n) after
