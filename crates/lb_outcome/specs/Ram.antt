-- RAM: a byte for each address.
use Rattle.std.specs.Prelude.{ℕ, zero, suc, ◌+◌, ◌*◌, ◌/◌, ◌%◌, ◌==◌, if◌then◌else◌, List, [], ◌∷◌}
use Rattle.lb_rv.specs.declared.instr.Instr.{Instr}
use Rattle.lb_rv.specs.Effects.{access, loaded_word}
use Rattle.lb_outcome.specs.MemoryMap.{is_in_ram}

-- the number that n bytes from the address a on make, the least significant first
abbrev pub number_at : ℕ → ℕ → (ℕ → ℕ) → ℕ
number_at zero a ram = 0
number_at (suc n) a ram = ram a + 256 * number_at n (a + 1) ram

-- RAM with this byte at the address a
abbrev pub with_byte : ℕ → ℕ → (ℕ → ℕ) → (ℕ → ℕ)
with_byte a v ram = λ x. if a == x then v else ram x

-- RAM with the n lowest bytes of v from the address a on, the least significant first
abbrev pub with_bytes : ℕ → ℕ → ℕ → (ℕ → ℕ) → (ℕ → ℕ)
with_bytes zero a v ram = ram
with_bytes (suc n) a v ram = with_bytes n (a + 1) (v / 256) (with_byte a (v % 256) ram)

-- RAM with these words one behind the other from the address a on
abbrev pub with_words : ℕ → List ℕ → (ℕ → ℕ) → (ℕ → ℕ)
with_words a [] ram = ram
with_words a (w ∷ ws) ram = with_words (a + 4) ws (with_bytes 4 a w ram)

-- RAM at boot: the code's words from address 0 on, and 0 behind them
abbrev pub boot_ram : List ℕ → (ℕ → ℕ)
boot_ram code = with_words 0 code (λ x. 0)

-- what a load at the address a sets its register to; 0 where it doesn't lie wholly in RAM, where none is done. It goes by the access alone,
-- so that it is said of a store's access too
unfoldable pub loaded : Instr → ℕ → (ℕ → ℕ) → ℕ
loaded i a ram = if is_in_ram (access i).bytes a then loaded_word (access i) (number_at (access i).bytes a ram) else 0

-- RAM after a store of v at the address a; the same where it doesn't lie wholly in RAM, where none is done. It goes by the access alone,
-- so that it is said of a load's access too
unfoldable pub stored : Instr → ℕ → ℕ → (ℕ → ℕ) → (ℕ → ℕ)
stored i a v ram = if is_in_ram (access i).bytes a then with_bytes (access i).bytes a v ram else ram
