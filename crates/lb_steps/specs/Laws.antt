-- The laws of a machine that moves from state to state, for all machines over a type of states.
use Rattle.std.specs.Prelude.{◌≡◌, ◌≤◌, ℕ, ◌+◌, List, Option, None}
use Rattle.lb_trace.specs.Prefix.{IsPrefix}
use Rattle.lb_steps.specs.Runs.{run, OnlyExtends}

-- a run of m + n moves is one of m moves and then one of n
abbrev pub RunsCompose : Type 0 → Type 0
RunsCompose S = (move : S → Option S) (m n : ℕ) (s : S) → run move (m + n) s ≡ run move n (run move m s)

-- where there is no move a run changes nothing
abbrev pub StandsStill : Type 0 → Type 0
StandsStill S = (move : S → Option S) (n : ℕ) (s : S) → move s ≡ None → run move n s ≡ s

-- where there is no move after m moves, a longer run ends there too
abbrev pub StandsStillAfter : Type 0 → Type 0
StandsStillAfter S =
    (move : S → Option S) (m n : ℕ) (s : S) → move (run move m s) ≡ None → m ≤ n → run move n s ≡ run move m s

-- where moves only extend the trace, a longer run's trace begins with the shorter's
abbrev pub LongerRunExtends : Type 0 → Type 0 → Type 0
LongerRunExtends S E =
    (move : S → Option S) (trace : S → List E) → OnlyExtends move trace
    → (m n : ℕ) (s : S) → m ≤ n → IsPrefix (trace (run move m s)) (trace (run move n s))
