-- The variables and the bytes of a running program: partial functions, so that two that hold the same are the same.
use Rattle.std.specs.Prelude.{ℕ, ◌+◌, nat_le, nat_lt, ◌&&◌, if◌then◌else◌, Option, None}
use Rattle.std.specs.Str.{bytes_eq}
use Rattle.lb_syntax.specs.Names.{Text}

-- the value of each variable that is set
abbrev pub Variables : Type 0
Variables = Text → Option ℕ

abbrev pub no_variables : Variables
no_variables = λ x. None

-- the same but for one variable: a value sets it, none unsets it
abbrev pub put : Text → Option ℕ → Variables → Variables
put x value variables = λ y. if bytes_eq x y then value else variables y

-- what stands at each address that is owned: a byte, or none where it is unset
abbrev pub Memory : Type 0
Memory = ℕ → Option (Option ℕ)

abbrev pub nothing_owned : Memory
nothing_owned = λ a. None

-- the same but for n addresses from `base` on
abbrev pub with_range : ℕ → ℕ → Option (Option ℕ) → Memory → Memory
with_range base n cell memory = λ a. if nat_le base a && nat_lt a (base + n) then cell else memory a
