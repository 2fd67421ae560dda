-- One instruction of a processor, and of a run.
use Rattle.std.specs.Prelude.{ℕ, ◌+◌, ◌*◌, List, [], ◌∷◌, ◌++◌, drop, length, slice_get, Option, Some, None, true, false}
use Rattle.lb_trace.specs.declared.Event.TheVariants.{Ld, St}
use Rattle.lb_rv.specs.Effects.{destination}
use Rattle.lb_outcome.specs.declared.types.Outcome.{Outcome}
use Rattle.lb_outcome.specs.declared.types.Outcome.TheVariants.{Plain, Load, Store, Halt}
use Rattle.lb_outcome.specs.declared.types.Executed.{Executed}
use Rattle.lb_outcome.specs.Fetching.{word_at, instruction_in, left_source, right_source}
use Rattle.lb_outcome.specs.Outcomes.{executed}
use Rattle.lb_outcome.specs.Ram.{loaded, stored}
use Rattle.lb_outcome.specs.Registers.{with_register}
use Rattle.lb_isa.specs.declared.processor.Stepped.{Stepped}
use Rattle.lb_isa.specs.declared.processor.Stepped.TheVariants.{Committed, WantsReply, Halted}
use Rattle.lb_isa.specs.State.{IsaContent, ProcessorState, RunState, processor_of}

-- the outcome of the word at the processor's pc, if one stands there
abbrev pub outcome_at : List ℕ → ProcessorState → Option ℕ → Executed
outcome_at code p word =
    executed (4 * length code) p.pc word (instruction_in word)
    (p.registers (left_source (instruction_in word)))
    (p.registers (right_source (instruction_in word)))

-- the outcome of the next instruction; fetch reads the code as loaded
abbrev pub upcoming : List ℕ → ProcessorState → Executed
upcoming code p = outcome_at code p (word_at code p.pc)

-- what a step answers to an outcome, where it is handed this reply
abbrev pub answer : Outcome → Option ℕ → Stepped
answer (Plain rd v) reply = Committed None
answer (Load i a false served) reply = Committed None
answer (Load i a true served) None = WantsReply
answer (Load i a true served) (Some v) = Committed (Some (Ld a v))
answer (Store i a v false served) reply = Committed None
answer (Store i a v true served) reply = Committed (Some (St a v))
answer (Halt cause) reply = Halted cause

-- a processor that goes on at this address with these registers and this RAM
abbrev pub goes_on : ℕ → (ℕ → ℕ) → (ℕ → ℕ) → ProcessorState
goes_on next registers ram = record { pc = next; registers = registers; ram = ram }

-- the processor after an outcome, where the next instruction stands at this address: nothing changes where it halts or a reply is missing
abbrev pub after : Outcome → ℕ → Option ℕ → ProcessorState → ProcessorState
after (Plain rd v) next reply p = goes_on next (with_register rd v p.registers) p.ram
after (Load i a false served) next reply p =
    goes_on next (with_register (destination i) (loaded i a p.ram) p.registers) p.ram
after (Load i a true served) next None p = p
after (Load i a true served) next (Some v) p =
    goes_on next (with_register (destination i) v p.registers) p.ram
after (Store i a v false served) next reply p = goes_on next p.registers (stored i a v p.ram)
after (Store i a v true served) next reply p = goes_on next p.registers p.ram
after (Halt cause) next reply p = p

-- what the next step of a processor answers, where it is handed this reply
abbrev pub next_answer : List ℕ → Option ℕ → ProcessorState → Stepped
next_answer code reply p = answer (upcoming code p).outcome reply

-- the processor after this step
abbrev pub next_processor : List ℕ → Option ℕ → ProcessorState → ProcessorState
next_processor code reply p = after (upcoming code p).outcome (upcoming code p).next reply p

-- the same of what is seen in an `Isa`
abbrev pub after_step : Option ℕ → IsaContent → ProcessorState
after_step reply m = next_processor m.code reply (processor_of m)

-- a run whose next step answers so and leads to this processor: none where it commits nothing; a read takes a reply
abbrev pub moved : Stepped → ProcessorState → RunState → Option RunState
moved (Committed None) p s = Some (record {
  processor = p;
  replies = s.replies;
  trace = s.trace;
  committed = s.committed + 1;
})
moved (Committed (Some (Ld a v))) p s =
    Some (record {
      processor = p;
      replies = drop 1 s.replies;
      trace = s.trace ++ Ld a v ∷ [];
      committed = s.committed + 1;
    })
moved (Committed (Some (St a v))) p s =
    Some (record {
      processor = p;
      replies = s.replies;
      trace = s.trace ++ St a v ∷ [];
      committed = s.committed + 1;
    })
moved WantsReply p s = None
moved (Halted cause) p s = None

-- a run after an outcome
abbrev pub commit : Outcome → ℕ → RunState → Option RunState
commit o next s =
    moved (answer o (slice_get s.replies 0)) (after o next (slice_get s.replies 0) s.processor) s

-- a run after one more instruction of the code; none where it stands still
abbrev pub move : List ℕ → RunState → Option RunState
move code s = commit (upcoming code s.processor).outcome (upcoming code s.processor).next s

-- the step changed nothing
abbrev pub IsRefused : Stepped → Type 0
IsRefused (Committed event) = ⊥
IsRefused WantsReply = Unit {0}
IsRefused (Halted cause) = Unit {0}
