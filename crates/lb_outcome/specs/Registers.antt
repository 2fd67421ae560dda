-- The registers: a word for each number. x0 is always 0, and there is none from 32 on.
use Rattle.std.specs.Prelude.{ℕ, nat_lt, ◌==◌, ◌&&◌, Bool, if◌then◌else◌}

-- the registers at boot
abbrev pub boot_registers : ℕ → ℕ
boot_registers = λ x. 0

-- a write of register r writes x
abbrev pub is_written : ℕ → ℕ → Bool
is_written r x = nat_lt 0 r && nat_lt r 32 && r == x

-- the registers after a write of v to register r; a write of x0 changes nothing
abbrev pub with_register : ℕ → ℕ → (ℕ → ℕ) → (ℕ → ℕ)
with_register r v registers = λ x. if is_written r x then v else registers x
