-- For private contracts alone: the outcomes of a kind of instruction.
use Rattle.std.specs.Prelude.{ℕ, ℤ, Bool, if◌then◌else◌}
use Rattle.lb_rv.specs.Effects.{next_address, plus_immediate}
use Rattle.lb_outcome.specs.declared.types.Executed.{Executed}
use Rattle.lb_outcome.specs.Outcomes.{comes_to, plain}

-- a branch at pc: it sets no register
abbrev pub branches : Bool → ℕ → ℤ → Executed
branches is_taken pc imm = comes_to (plain 0 0) (if is_taken then plus_immediate pc imm else next_address pc)
