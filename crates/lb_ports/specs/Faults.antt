-- Counts of faults, and what has to be told by them.
use Rattle.std.specs.Prelude.{◌≡◌, ℕ, ◌+◌, ◌-◌, ◌^◌, ◌<◌, min, List, length, ⊤, ◌⊎◌, Result, Ok, Err}

-- the next value of a counter of 64 bits, which stands still at its last
abbrev pub next_count : ℕ → ℕ
next_count count = min (count + 1) (2 ^ 64 - 1)

-- a count of faults rose: it is greater than before, or stands at the last value of a counter of 64 bits
abbrev pub Rose : ℕ → ℕ → Type 0
Rose before now = (before < now) ⊎ (now ≡ 2 ^ 64 - 1)

-- a write failed, or took nothing of a piece that isn't empty
abbrev pub TakesNothing : {E : Type 0} → Result ℕ E → List ℕ → Type 0
TakesNothing (Ok count) piece = (count ≡ 0) × (0 < length piece)
TakesNothing (Err e) piece = ⊤
