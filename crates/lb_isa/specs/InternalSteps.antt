-- For private contracts alone: what the code does on its way to one more instruction of a run.
use Rattle.std.specs.Prelude.{◌≡◌, ℕ, ◌*◌, List, length, slice_get, Option, Some, None}
use Rattle.lb_rv.specs.declared.instr.Instr.{Instr}
use Rattle.lb_rv.specs.Effects.{effect, sources}
use Rattle.lb_outcome.specs.declared.types.Executed.{Executed}
use Rattle.lb_outcome.specs.Outcomes.{outcome_of}
use Rattle.lb_isa.specs.declared.runner.Ending.{Ending}
use Rattle.lb_isa.specs.declared.runner.IsaRun.{IsaRun}
use Rattle.lb_trace.specs.declared.Event.{Event}
use Rattle.lb_isa.specs.State.{IsaContent, ProcessorState, RunState, processor_of}
use Rattle.lb_isa.specs.Moves.{move, next_answer}
use Rattle.lb_isa.specs.Runs.{ending_before}

-- the outcome of this instruction at the processor's pc
abbrev pub instruction_outcome : List ℕ → ProcessorState → Instr → Executed
instruction_outcome code p i =
    outcome_of (4 * length code) i p.pc
    (effect i p.pc (p.registers (sources i).0) (p.registers (sources i).1))

-- a run moves on by one instruction, or stands still with this ending
abbrev pub Advances : List ℕ → RunState → RunState → Option Ending → Type 0
Advances code old new None = move code old ≡ Some new
Advances code old new (Some ending) =
    (move code old ≡ None) × (new ≡ old)
    × (ending ≡ ending_before (next_answer code (slice_get old.replies 0) old.processor))

-- what is seen of a run in code: its processor, the replies that are left, the accesses of devices, and the number of instructions committed
pub record RunnerContent : Type 0 where
  pub isa : IsaContent
  pub replies : List ℕ
  pub trace : List Event
  pub committed : ℕ

-- the run that it is
abbrev pub run_of : RunnerContent → RunState
run_of r = record {
  processor = processor_of r.isa;
  replies = r.replies;
  trace = r.trace;
  committed = r.committed;
}

-- what it did, where it ends so
abbrev pub ended_run : RunnerContent → Ending → IsaRun
ended_run r ending = record { trace = r.trace; committed = r.committed; ending = ending }
