-- The laws of runs.
use Rattle.std.specs.Prelude.{◌≡◌, ◌≢◌, ◌≤◌, ℕ, ◌+◌, List, ◌++◌, None}
use Rattle.lb_trace.specs.Prefix.{IsPrefix}
use Rattle.lb_trace.specs.Trace.{reply_values}
use Rattle.lb_steps.specs.Runs.{run}
use Rattle.lb_rv.specs.declared.instr.Cause.{Cause}
use Rattle.lb_isa.specs.State.{with_more}
use Rattle.lb_isa.specs.Moves.{move}
use Rattle.lb_isa.specs.Runs.{isa, IsHaltedBy}

-- at most m + n instructions are at most m and then at most n
abbrev pub RunsGoOn : Type 0
RunsGoOn =
    (code : List ℕ) (entry : ℕ) (replies : List ℕ) (m n : ℕ)
    → isa code entry replies (m + n) ≡ run (move code) n (isa code entry replies m)

-- a longer run's trace begins with the shorter's
abbrev pub LongerRunsExtend : Type 0
LongerRunsExtend =
    (code : List ℕ) (entry : ℕ) (replies : List ℕ) (m n : ℕ) → m ≤ n
    → IsPrefix (isa code entry replies m).trace (isa code entry replies n).trace

-- no more instructions are committed than were asked for
abbrev pub CommitsAtMost : Type 0
CommitsAtMost =
    (code : List ℕ) (entry : ℕ) (replies : List ℕ) (n : ℕ)
    → (isa code entry replies n).committed ≤ n

-- where fewer were committed, no instruction can be: the run stands still
abbrev pub FewerStandsStill : Type 0
FewerStandsStill =
    (code : List ℕ) (entry : ℕ) (replies : List ℕ) (n : ℕ)
    → (isa code entry replies n).committed ≢ n → move code (isa code entry replies n) ≡ None

-- where a cause holds before the next instruction, every longer run is the same
abbrev pub HaltedStandsStill : Type 0
HaltedStandsStill =
    (code : List ℕ) (entry : ℕ) (replies : List ℕ) (m n : ℕ) (cause : Cause)
    → IsHaltedBy cause code (isa code entry replies m) → m ≤ n
    → isa code entry replies n ≡ isa code entry replies m

-- more replies change nothing of what was done: a run that committed as many instructions as it was to commits the same ones
abbrev pub MoreRepliesKeep : Type 0
MoreRepliesKeep =
    (code : List ℕ) (entry : ℕ) (replies more : List ℕ) (n : ℕ)
    → (isa code entry replies n).committed ≡ n
    → isa code entry (replies ++ more) n ≡ with_more more (isa code entry replies n)

-- the values that were read are the first replies, and the others are left
abbrev pub RepliesAreRead : Type 0
RepliesAreRead =
    (code : List ℕ) (entry : ℕ) (replies : List ℕ) (n : ℕ)
    → reply_values (isa code entry replies n).trace ++ (isa code entry replies n).replies ≡ replies

-- x0 is always 0
abbrev pub ZeroRegisterStays : Type 0
ZeroRegisterStays =
    (code : List ℕ) (entry : ℕ) (replies : List ℕ) (n : ℕ)
    → (isa code entry replies n).processor.registers 0 ≡ 0
