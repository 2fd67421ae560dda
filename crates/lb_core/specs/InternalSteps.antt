-- For private contracts alone: parts of a row, and what a core keeps of its code.
use Rattle.std.specs.Prelude.{◌≡◌, ◌≤◌, ℕ, ◌+◌, ◌-◌, ◌^◌, List, ◌∷◌, length, map, drop, false, Option, Some}
use Rattle.std.specs.List.{AllByRecursion}
use Rattle.lb_rv.specs.Decoding.{instruction_of}
use Rattle.lb_front.specs.declared.item.FetchItem.{FetchItem}
use Rattle.lb_core.specs.Stands.{HasWord}
use Rattle.lb_rv.specs.declared.instr.Instr.{Instr}
use Rattle.lb_outcome.specs.declared.types.Outcome.TheVariants.{Load}
use Rattle.lb_outcome.specs.Ram.{loaded}
use Rattle.lb_isa.specs.State.{most_words}
use Rattle.lb_core.specs.State.{CoreState}

-- the oldest outcome is a load that is done in RAM
abbrev pub front_loaded : Instr → ℕ → CoreState → CoreState
front_loaded i a c = record c { outcomes = Load i a false (Some (loaded i a c.ram)) ∷ drop 1 c.outcomes }

-- the oldest outcome is removed, and one more instruction is retired
abbrev pub front_retired : CoreState → CoreState
front_retired c = record c { outcomes = drop 1 c.outcomes; retired = c.retired + 1 }

-- what a core keeps: the code has at most so many words, and fewer than 2^64 - 1 instructions were retired; the
-- instructions are those of the code's words, and what was fetched has the code's words
pub record IsKept (code : List ℕ) (instructions : List (Option Instr)) (its : List FetchItem) (retired : ℕ)
    : Type 0 where
  pub code_fits : length code ≤ most_words
  pub retired_fits : retired ≤ 2 ^ 64 - 2
  pub instructions_of_code : instructions ≡ map instruction_of code
  pub words : AllByRecursion (HasWord code) its
