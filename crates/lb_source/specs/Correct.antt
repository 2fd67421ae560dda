-- What a machine owes to a program. `run` says what the program does with so much fuel and these replies, `shown` what the machine has done
-- to devices after so many moves with these replies, and `IsHalted` that it has halted by then.
use Rattle.std.specs.Prelude.{ℕ, ◌+◌, ◌*◌, ◌^◌, ◌<◌, List, [], ◌∷◌}
use Rattle.lb_trace.specs.declared.Event.{Event}
use Rattle.lb_trace.specs.Prefix.{IsPrefix}
use Rattle.lb_source.specs.Defined.{IsDefined}
use Rattle.lb_source.specs.declared.ends.SourceRun.{SourceRun}

-- each number is a word
abbrev pub AreWords : List ℕ → Type 0
AreWords [] = Unit {0}
AreWords (v ∷ vs) = (v < 2 ^ 32) × AreWords vs

-- whatever words the devices reply: where the program does nothing undefined with fuel n, what n moves of the machine do to devices is the
-- beginning of what the program does, and the machine isn't halted
pub record Refines (run : ℕ → List ℕ → SourceRun) (shown : List ℕ → ℕ → List Event) (IsHalted : List ℕ → ℕ → Type 0) : Type 0 where
  pub agrees : (replies : List ℕ) (n : ℕ) → AreWords replies → IsDefined (run n replies).end → IsPrefix (shown replies n) (run n replies).trace
  pub runs : (replies : List ℕ) (n : ℕ) → AreWords replies → IsDefined (run n replies).end → ¬ (IsHalted replies n)

-- what the program does with fuel n, if nothing is undefined, is the beginning of what the machine does in n + 1 times `need` moves
pub record Progresses (run : ℕ → List ℕ → SourceRun) (need : ℕ) (shown : List ℕ → ℕ → List Event) : Type 0 where
  pub comes : (replies : List ℕ) (n : ℕ) → AreWords replies → IsDefined (run n replies).end
      → IsPrefix (run n replies).trace (shown replies ((n + 1) * need))

-- the machine does nothing that the program doesn't do, and what the program does with fuel n it does within n + 1 times `need` moves
pub record Implements (run : ℕ → List ℕ → SourceRun) (need : ℕ) (shown : List ℕ → ℕ → List Event) (IsHalted : List ℕ → ℕ → Type 0) : Type 0 where
  pub refines : Refines run shown IsHalted
  pub progresses : Progresses run need shown
