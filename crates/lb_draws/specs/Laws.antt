-- What holds of all draws.
use Rattle.std.specs.Prelude.{ℕ, ◌<◌, ◌^◌}
use Rattle.lb_draws.specs.Draws.{draw}

-- each of them is a word
abbrev pub DrawsAreWords : Type 0
DrawsAreWords = (seed worker n : ℕ) → seed < 2 ^ 32 → draw seed worker n < 2 ^ 32
