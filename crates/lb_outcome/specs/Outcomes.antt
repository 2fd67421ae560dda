-- The outcome of an instruction: one definition for all that runs instructions.
use Rattle.std.specs.Prelude.{ℕ, nat_lt, ◌==◌, Bool, true, false, if◌then◌else◌, Option, Some, None}
use Rattle.lb_rv.specs.declared.instr.Instr.{Instr}
use Rattle.lb_rv.specs.declared.instr.Cause.{Cause}
use Rattle.lb_rv.specs.declared.instr.Cause.TheVariants.{BadPc, UnknownWord, StoreToCode, BadAccess}
use Rattle.lb_rv.specs.Effects.{Effect, Sets, Goes, Loads, Stores, Stops, access, destination, effect, next_address}
use Rattle.lb_outcome.specs.declared.types.Outcome.{Outcome}
use Rattle.lb_outcome.specs.declared.types.Outcome.TheVariants.{Plain, Load, Store, Halt}
use Rattle.lb_outcome.specs.declared.types.Executed.{Executed}
use Rattle.lb_outcome.specs.MemoryMap.{is_in_ram, is_device_word}

-- an outcome and the address of the next instruction
abbrev pub comes_to : Outcome → ℕ → Executed
comes_to o next = record { outcome = o; next = next }

-- the processor halts at pc
abbrev pub halts : Cause → ℕ → Executed
halts cause pc = comes_to (Halt cause) pc

-- register rd becomes v; where it is x0, which is no destination, the value is told as 0
abbrev pub plain : ℕ → ℕ → Outcome
plain rd v = Plain rd (if rd == 0 then 0 else v)

-- a load: by whether it lies in RAM, and else whether it is one of a device's word
abbrev pub load_outcome : Bool → Bool → Instr → ℕ → ℕ → Executed
load_outcome true device i pc a = comes_to (Load i a false None) (next_address pc)
load_outcome false true i pc a = comes_to (Load i a true None) (next_address pc)
load_outcome false false i pc a = halts BadAccess pc

-- a store of v: by whether it lies in RAM, there touches the code, and else is one of a device's word
abbrev pub store_outcome : Bool → Bool → Bool → Instr → ℕ → ℕ → ℕ → Executed
store_outcome true true device i pc a v = halts StoreToCode pc
store_outcome true false device i pc a v = comes_to (Store i a v false false) (next_address pc)
store_outcome false code true i pc a v = comes_to (Store i a v true false) (next_address pc)
store_outcome false code false i pc a v = halts BadAccess pc

-- a load at the address a
abbrev pub loads_at : Instr → ℕ → ℕ → Executed
loads_at i pc a = load_outcome (is_in_ram (access i).bytes a) (is_device_word (access i).bytes a) i pc a

-- a store of v at the address a; the code has this many bytes from address 0 on, so a store touches it where its first byte does
abbrev pub stores_at : ℕ → Instr → ℕ → ℕ → ℕ → Executed
stores_at code_bytes i pc a v =
    store_outcome (is_in_ram (access i).bytes a) (nat_lt a code_bytes) (is_device_word (access i).bytes a) i pc a v

-- the outcome of an instruction with this effect
abbrev pub outcome_of : ℕ → Instr → ℕ → Effect → Executed
outcome_of code_bytes i pc (Sets v next) = comes_to (plain (destination i) v) next
outcome_of code_bytes i pc (Goes next) = comes_to (plain (destination i) 0) next
outcome_of code_bytes i pc (Loads a) = loads_at i pc a
outcome_of code_bytes i pc (Stores a v) = stores_at code_bytes i pc a v
outcome_of code_bytes i pc (Stops cause) = halts cause pc

-- the outcome at pc of the word that stands there, if one does, and its instruction, if it has one, where rs1 and rs2 hold a and b
abbrev pub executed : ℕ → ℕ → Option ℕ → Option Instr → ℕ → ℕ → Executed
executed code_bytes pc None i a b = halts BadPc pc
executed code_bytes pc (Some w) None a b = halts UnknownWord pc
executed code_bytes pc (Some w) (Some i) a b = outcome_of code_bytes i pc (effect i pc a b)
