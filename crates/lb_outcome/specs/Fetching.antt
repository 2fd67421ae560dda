-- What stands at an address of the code, and which registers it reads.
use Rattle.std.specs.Prelude.{ℕ, ◌/◌, ◌%◌, ◌==◌, if◌then◌else◌, List, slice_get, Option, Some, None}
use Rattle.lb_rv.specs.declared.instr.Instr.{Instr}
use Rattle.lb_rv.specs.Decoding.{instruction_of}
use Rattle.lb_rv.specs.Effects.{sources}

-- what stands at an address, where item n stands at 4 * n: nothing at an address that is no multiple of 4 or isn't below the end
abbrev pub item_at : {A : Type 0} → List A → ℕ → Option A
item_at items pc = if pc % 4 == 0 then slice_get items (pc / 4) else None

-- the code's word at an address
abbrev pub word_at : List ℕ → ℕ → Option ℕ
word_at code pc = item_at code pc

-- the instruction of a word, if there is one
abbrev pub instruction_in : Option ℕ → Option Instr
instruction_in None = None
instruction_in (Some w) = instruction_of w

-- the registers rs1 and rs2 that are read, 0 where there is none
abbrev pub left_source : Option Instr → ℕ
left_source None = 0
left_source (Some i) = (sources i).0

abbrev pub right_source : Option Instr → ℕ
right_source None = 0
right_source (Some i) = (sources i).1
