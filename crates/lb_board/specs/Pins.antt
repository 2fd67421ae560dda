-- The registers of the pins keep what is written to them.
use Rattle.std.specs.Prelude.{ℕ, ◌==◌, Bool, ◌||◌, if◌then◌else◌, List, [], ◌∷◌, Option, Some, None, filter_map}
use Rattle.lb_board.specs.Steps.{Step, Reads, Writes, Acts}

-- output_en, output_val and iof_en
abbrev pub is_pin_register : ℕ → Bool
is_pin_register a = a == 0x10012008 || a == 0x1001200C || a == 0x10012038

-- what a step writes at the address
abbrev pub value_written : ℕ → Step → Option ℕ
value_written a (Writes b v) = if b == a then Some v else None
value_written a (Reads b) = None
value_written a (Acts k) = None

-- the last of the values, or another one where there is none
abbrev pub last_of : ℕ → List ℕ → ℕ
last_of v [] = v
last_of v (w ∷ ws) = last_of w ws

-- the value that was last written at the address, 0 where none was
abbrev pub last_written : ℕ → List Step → ℕ
last_written a xs = last_of 0 (filter_map (value_written a) xs)
