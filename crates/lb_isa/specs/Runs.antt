-- Runs of a code from boot, one instruction after the other, each load of a device's word taking the next reply.
use Rattle.std.specs.Prelude.{◌≡◌, ◌<◌, ◌≤◌, ℕ, ◌*◌, ◌%◌, ◌==◌, if◌then◌else◌, List, [], length, slice_get}
use Rattle.lb_rv.specs.declared.instr.Cause.{Cause}
use Rattle.lb_outcome.specs.declared.types.Outcome.TheVariants.{Halt}
use Rattle.lb_outcome.specs.Ram.{boot_ram}
use Rattle.lb_outcome.specs.Registers.{boot_registers}
use Rattle.lb_steps.specs.Runs.{run}
use Rattle.lb_isa.specs.declared.processor.Stepped.{Stepped}
use Rattle.lb_isa.specs.declared.processor.Stepped.TheVariants.{Committed, WantsReply, Halted}
use Rattle.lb_isa.specs.declared.runner.Ending.{Ending}
use Rattle.lb_isa.specs.declared.runner.Ending.TheVariants.{Running, WantsReply as EndsWaiting, Halted as EndsHalted}
use Rattle.lb_isa.specs.State.{ProcessorState, RunState, most_words}
use Rattle.lb_isa.specs.Moves.{move, next_answer, upcoming}

-- a code of at least one word and at most so many, and an entry that is a multiple of 4 below its end
pub record IsBootable (code : List ℕ) (entry : ℕ) : Type 0 where
  pub words : length code ≤ most_words
  pub aligned : entry % 4 ≡ 0
  pub within : entry < 4 * length code

-- a processor before its first instruction
abbrev pub booted : List ℕ → ℕ → ProcessorState
booted code entry = record { pc = entry; registers = boot_registers; ram = boot_ram code }

-- a run before its first instruction
abbrev pub start : List ℕ → ℕ → List ℕ → RunState
start code entry replies = record {
  processor = booted code entry;
  replies = replies;
  trace = [];
  committed = 0;
}

-- the run of at most n instructions from boot: it stands still where a cause halts it or a reply is missing
abbrev pub isa : List ℕ → ℕ → List ℕ → ℕ → RunState
isa code entry replies n = run (move code) n (start code entry replies)

-- how many instructions it commits
abbrev pub commits : List ℕ → ℕ → List ℕ → ℕ → ℕ
commits code entry replies n = (isa code entry replies n).committed

-- the processor of this run is halted by this cause: it holds before the next instruction
abbrev pub IsHaltedBy : Cause → List ℕ → RunState → Type 0
IsHaltedBy cause code s = (upcoming code s.processor).outcome ≡ Halt cause

-- how a run ends whose next step answers so
abbrev pub ending_before : Stepped → Ending
ending_before (Committed event) = Running
ending_before WantsReply = EndsWaiting
ending_before (Halted cause) = EndsHalted cause

-- how a run ends that was to commit at most n instructions: it is still running exactly where it committed n, whatever the next one is
abbrev pub ending_after : List ℕ → ℕ → RunState → Ending
ending_after code n s =
    if s.committed == n then Running
    else ending_before (next_answer code (slice_get s.replies 0) s.processor)

-- how the run of at most n instructions from boot ends
abbrev pub isa_ending : List ℕ → ℕ → List ℕ → ℕ → Ending
isa_ending code entry replies n = ending_after code n (isa code entry replies n)
