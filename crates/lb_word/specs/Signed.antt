-- Words of 32 bits as signed numbers: the two's complement value of a word, and the word of a whole number.
use Rattle.std.specs.Prelude.{ℕ, ◌^◌, ℤ, pos, ◌-ℤ◌, unsigned_abs, nat_lt, if◌then◌else◌}
use Rattle.std.specs.Int.{int_div_euclid, int_rem_euclid}

-- the two's complement value of a word: a word below 2 ^ 31 is itself, any other is 2 ^ 32 less
unfoldable pub signed_value : ℕ → ℤ
signed_value w = if nat_lt w (2 ^ 31) then pos w else pos w -ℤ pos (2 ^ 32)

-- the word of a whole number: z modulo 2 ^ 32, which is from 0 to 2 ^ 32 - 1 also where z is negative
unfoldable pub residue : ℤ → ℕ
residue z = unsigned_abs (int_rem_euclid z (pos (2 ^ 32)))

-- z / n, rounded down, for an n above 0
unfoldable pub floor_quotient : ℤ → ℕ → ℤ
floor_quotient z n = int_div_euclid z (pos n)
