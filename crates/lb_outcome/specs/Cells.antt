-- A list as a function from places.
use Rattle.std.specs.Prelude.{ℕ, List, slice_index}

-- what stands at each place of a list, and 0 behind its end
abbrev pub cells : List ℕ → (ℕ → ℕ)
cells xs = λ x. slice_index xs x
