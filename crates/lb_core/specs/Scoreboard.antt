-- The scoreboard: which registers are pending, and which an instruction has to wait for.
use Rattle.std.specs.Prelude.{ℕ, Bool, true, not, ◌&&◌, ◌||◌, List, [], ◌∷◌, ◌++◌, map, Option, Some, None}
use Rattle.lb_rv.specs.declared.instr.Instr.{Instr}
use Rattle.lb_rv.specs.Effects.{destination}
use Rattle.lb_outcome.specs.declared.types.Outcome.{Outcome}
use Rattle.lb_outcome.specs.declared.types.Outcome.TheVariants.{Plain, Load, Store, Halt}
use Rattle.lb_outcome.specs.Fetching.{left_source, right_source}
use Rattle.lb_outcome.specs.Registers.{is_written}
use Rattle.lb_exec.specs.declared.item.DecodeItem.{DecodeItem}
use Rattle.lb_core.specs.State.{CoreState}

-- the register that an instruction writes, 0 where there is none; so it is for what has no instruction
abbrev pub written_register : Option Instr → ℕ
written_register None = 0
written_register (Some i) = destination i

-- the register that an outcome writes, 0 where there is none
abbrev pub outcome_destination : Outcome → ℕ
outcome_destination (Plain rd v) = rd
outcome_destination (Load i a mmio served) = destination i
outcome_destination (Store i a v mmio served) = 0
outcome_destination (Halt cause) = 0

-- the register that a decoded item will write; a load's is known from here on
abbrev pub item_destination : DecodeItem → ℕ
item_destination d = written_register d.instruction

-- the instruction reads or writes this register, and it isn't x0
abbrev pub uses : Option Instr → ℕ → Bool
uses i r = is_written r (left_source i) || is_written r (right_source i) || is_written r (written_register i)

-- the instruction uses none of these registers
abbrev pub uses_none : Option Instr → List ℕ → Bool
uses_none i [] = true
uses_none i (r ∷ rs) = not (uses i r) && uses_none i rs

-- the registers that are still to be written
abbrev pub pending : CoreState → List ℕ
pending c = map outcome_destination c.outcomes ++ map item_destination c.decoded
