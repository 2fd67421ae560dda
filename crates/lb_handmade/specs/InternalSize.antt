-- What the count of a program's parts leaves. Only contracts of private functions cite it.
use Rattle.std.specs.Prelude.{◌≡◌, ℕ, ◌+◌, ◌<◌, Option, MatchOption}

-- what is left of the room behind what is needed; none, where more is needed
abbrev pub Leaves : ℕ → ℕ → Option ℕ → Type 0
Leaves room need result = MatchOption result (room < need) (λ left. left + need ≡ room)
