-- For private contracts alone: the code of a large program on the instruction machine, one step at a time.
use Rattle.std.specs.Prelude.{◌≡◌, ℕ, List, [], length, Option, Some, None}
use Rattle.lb_isa.specs.State.{IsaContent, RunState, processor_of}
use Rattle.lb_isa.specs.Runs.{isa}
use Rattle.lb_isa.specs.declared.processor.Stepped.{Stepped}
use Rattle.lb_isa.specs.declared.processor.Stepped.TheVariants.{Committed, WantsReply, Halted}

-- how many events an instruction made; none where it wasn't done
abbrev pub events_of : Stepped → Option ℕ
events_of (Committed None) = Some 0
events_of (Committed (Some event)) = Some 1
events_of WantsReply = None
events_of (Halted cause) = None

-- the processor is the run's, which has no replies and made so many events
pub record IsAt (m : IsaContent) (made : ℕ) (s : RunState) : Type 0 where
  pub processor : processor_of m ≡ s.processor
  pub replies : s.replies ≡ []
  pub events : made ≡ length s.trace

-- n instructions of the code were done, and they made so many events
pub record IsBehind (words : List ℕ) (entry n : ℕ) (m : IsaContent) (made : ℕ) : Type 0 where
  pub code : m.code ≡ words
  pub at : IsAt m made (isa words entry [] n)
