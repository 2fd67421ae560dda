-- For private contracts alone: what a step does with the instruction that stands at the processor's pc.
use Rattle.std.specs.Prelude.{◌≡◌, ◌≤◌, ℕ, List, length, map, Option, None, Bool, false, if◌then◌else◌, ℤ}
use Rattle.lb_rv.specs.declared.instr.Instr.{Instr}
use Rattle.lb_rv.specs.Effects.{next_address, plus_immediate}
use Rattle.lb_rv.specs.Decoding.{instruction_of}
use Rattle.lb_outcome.specs.declared.types.Executed.{Executed}
use Rattle.lb_outcome.specs.declared.types.Outcome.{Outcome}
use Rattle.lb_outcome.specs.declared.types.Outcome.TheVariants.{Load, Plain}
use Rattle.lb_outcome.specs.Outcomes.{plain}
use Rattle.lb_isa.specs.declared.processor.Stepped.{Stepped}
use Rattle.lb_isa.specs.State.{IsaContent, ProcessorState, most_words, processor_of}
use Rattle.lb_isa.specs.Moves.{after, answer, goes_on}
use Rattle.lb_isa.specs.InternalSteps.{instruction_outcome}

-- a code of at most so many words, and the instruction of each
abbrev pub IsPredecoded : List ℕ → List (Option Instr) → Type 0
IsPredecoded code instructions = (length code ≤ most_words) × (instructions ≡ map instruction_of code)

-- the outcome of this instruction, if it stands at the pc
abbrev pub outcome_in : Instr → IsaContent → Executed
outcome_in i m = instruction_outcome m.code (processor_of m) i

-- what the step answers, where it is handed this reply
abbrev pub answer_to : Instr → Option ℕ → IsaContent → Stepped
answer_to i reply m = answer (outcome_in i m).outcome reply

-- the processor after the step
abbrev pub after_doing : Instr → Option ℕ → IsaContent → ProcessorState
after_doing i reply m = after (outcome_in i m).outcome (outcome_in i m).next reply (processor_of m)

-- the processor after an instruction that sets a register to this value, and goes on at this address
abbrev pub after_setting : ℕ → ℕ → ℕ → IsaContent → ProcessorState
after_setting rd value next m = after (plain rd value) next None (processor_of m)

-- the processor after an instruction that sets a register to this value, and goes on behind itself
abbrev pub after_giving : ℕ → ℕ → IsaContent → ProcessorState
after_giving rd value m = after_setting rd value (next_address m.pc) m

-- the processor after a jump to this address, which sets a register to the address behind the jump
abbrev pub after_jump : ℕ → ℕ → IsaContent → ProcessorState
after_jump rd next m = after_setting rd (next_address m.pc) next m

-- the processor after a branch
abbrev pub after_branch : Bool → ℤ → IsaContent → ProcessorState
after_branch is_taken imm m =
    after_setting 0 0 (if is_taken then plus_immediate m.pc imm else next_address m.pc) m

-- the processor after an outcome, where the next instruction stands at this address
abbrev pub after_outcome : Outcome → ℕ → Option ℕ → IsaContent → ProcessorState
after_outcome o next reply m = after o next reply (processor_of m)

-- the processor after a load from RAM at the address a, which goes on at this address
abbrev pub after_load : Instr → ℕ → ℕ → IsaContent → ProcessorState
after_load i a next m = after_outcome (Load i a false None) next None m

-- the processor after a register is set to this value, which goes on at this address
abbrev pub after_write : ℕ → ℕ → ℕ → IsaContent → ProcessorState
after_write rd value next m = after_outcome (Plain rd value) next None m

-- the same processor, which goes on at this address
abbrev pub with_pc : ℕ → IsaContent → ProcessorState
with_pc next m = goes_on next (processor_of m).registers (processor_of m).ram
