-- What a core stands for: a run of the instruction-set machine.
use Rattle.std.specs.Prelude.{◌≡◌, ℕ, Bool, true, false, List, [], ◌∷◌, ◌++◌, map, slice_get, Option, Some, None, IfSome}
use Rattle.std.specs.List.{AllByRecursion}
use Rattle.lb_trace.specs.declared.Event.{Event}
use Rattle.lb_trace.specs.Trace.{reply_values}
use Rattle.lb_outcome.specs.declared.types.Outcome.{Outcome}
use Rattle.lb_outcome.specs.declared.types.Outcome.TheVariants.{Plain, Load, Store, Halt}
use Rattle.lb_outcome.specs.Fetching.{word_at, instruction_in, left_source, right_source}
use Rattle.lb_outcome.specs.Ram.{loaded}
use Rattle.lb_front.specs.declared.item.FetchItem.{FetchItem}
use Rattle.lb_exec.specs.declared.item.DecodeItem.{DecodeItem}
use Rattle.lb_isa.specs.State.{RunState}
use Rattle.lb_isa.specs.Moves.{move, upcoming}
use Rattle.lb_isa.specs.Runs.{isa, IsHaltedBy}
use Rattle.lb_core.specs.Rows.{done_of, same_epoch}
use Rattle.lb_core.specs.Scoreboard.{item_destination, outcome_destination, uses}
use Rattle.lb_core.specs.State.{CoreState}

-- the first where the test holds, else the second
abbrev pub ByTest : Bool → Type 0 → Type 0 → Type 0
ByTest true A B = A
ByTest false A B = B

-- ---- outcomes

-- an outcome without its mark of being served
abbrev pub unserved : Outcome → Outcome
unserved (Plain rd v) = Plain rd v
unserved (Load i a mmio served) = Load i a mmio None
unserved (Store i a v mmio served) = Store i a v mmio false
unserved (Halt cause) = Halt cause

abbrev pub IsUnserved : Outcome → Type 0
IsUnserved o = unserved o ≡ o

-- only the oldest may be served
abbrev pub OnlyFrontServed : List Outcome → Type 0
OnlyFrontServed [] = Unit {0}
OnlyFrontServed (o ∷ os) = AllByRecursion IsUnserved os

-- the value of a served load is the one that the run's next instruction loads
abbrev pub IsServedRight : Outcome → RunState → Type 0
IsServedRight (Plain rd v) s = Unit {0}
IsServedRight (Load i a mmio None) s = Unit {0}
IsServedRight (Load i a false (Some v)) s = v ≡ loaded i a s.processor.ram
IsServedRight (Load i a true (Some v)) s = slice_get s.replies 0 ≡ Some v
IsServedRight (Store i a v mmio served) s = Unit {0}
IsServedRight (Halt cause) s = Unit {0}

-- the outcomes are those of the run's next instructions, in order; the rest holds of the run behind them. Where the run stands still, that is
-- behind a halt or where a reply is missing, nothing more is said
abbrev pub Ahead : List ℕ → List Outcome → RunState → (RunState → Type 0) → Type 0
Ahead code [] s Rest = Rest s
Ahead code (o ∷ os) s Rest =
    (unserved o ≡ (upcoming code s.processor).outcome) × IsServedRight o s × IfSome (move code s) (λ t. Ahead code os t Rest)

-- ---- what was fetched and decoded

-- the part of a decoded item that was fetched
abbrev pub fetched_part : DecodeItem → FetchItem
fetched_part d = record { pc = d.pc; word = d.word; predicted = d.predicted; epoch = d.epoch }

-- all that waits to be executed, from the oldest on
abbrev pub waiting : CoreState → List FetchItem
waiting c = map fetched_part c.decoded ++ c.fetched

-- the word is the code's at the item's address
abbrev pub HasWord : List ℕ → FetchItem → Type 0
HasWord code it = it.word ≡ word_at code it.pc

-- the word is the code's, and the instruction is the word's
abbrev pub HasInstruction : List ℕ → DecodeItem → Type 0
HasInstruction code d = (d.word ≡ word_at code d.pc) × (d.instruction ≡ instruction_in d.word)

-- the item is of the epoch
abbrev pub IsCurrent : Bool → FetchItem → Type 0
IsCurrent e it = same_epoch it.epoch e ≡ true

-- the items of the other epoch come before those of this one
abbrev pub Ordered : Bool → List FetchItem → Type 0
Ordered e [] = Unit {0}
Ordered e (it ∷ its) = ByTest (same_epoch it.epoch e) (AllByRecursion (IsCurrent e) its) (Ordered e its)

-- the first item of the epoch is at pc, each later one at its forerunner's prediction, and fetch is at the last one's, or at pc where there is none
abbrev pub Follows : Bool → List FetchItem → ℕ → ℕ → Type 0
Follows e [] pc fetch = fetch ≡ pc
Follows e (it ∷ its) pc fetch = ByTest (same_epoch it.epoch e) ((it.pc ≡ pc) × Follows e its it.predicted fetch) (Follows e its pc fetch)

-- the register values of an item are these registers'
abbrev pub HasOperands : DecodeItem → (ℕ → ℕ) → Type 0
HasOperands d registers = (d.left ≡ registers (left_source d.instruction)) × (d.right ≡ registers (right_source d.instruction))

-- the register values of the items of the epoch are those that the run has at their instructions, as far as the predictions before are right
abbrev pub HaveOperands : List ℕ → Bool → List DecodeItem → RunState → Type 0
HaveOperands code e [] s = Unit {0}
HaveOperands code e (d ∷ ds) s =
    ByTest (same_epoch d.epoch e)
    (HasOperands d s.processor.registers × IfSome (move code s) (λ t. t.processor.pc ≡ d.predicted → HaveOperands code e ds t))
    (HaveOperands code e ds s)

-- what waits goes on where this run is
pub record FollowsRun (code : List ℕ) (e : Bool) (ds : List DecodeItem) (its : List FetchItem) (fetch : ℕ) (s : RunState) : Type 0 where
  pub follows : Follows e (map fetched_part ds ++ its) s.processor.pc fetch
  pub operands : HaveOperands code e ds s

abbrev pub Behind : CoreState → RunState → Type 0
Behind c s = FollowsRun c.code c.front.epoch c.decoded c.fetched c.front.pc s

-- ---- the scoreboard

-- no item uses this register, other than x0
abbrev pub NoneUses : ℕ → List DecodeItem → Type 0
NoneUses r ds = AllByRecursion (λ d. uses d.instruction r ≡ false) ds

-- no item uses what an older one writes
abbrev pub Apart : List DecodeItem → Type 0
Apart [] = Unit {0}
Apart (d ∷ ds) = NoneUses (item_destination d) ds × Apart ds

-- ---- all together

-- what is said of the queues alone
pub record AreInOrder (c : CoreState) : Type 0 where
  -- what was fetched has the code's words, what was decoded their instructions
  pub words : AllByRecursion (HasWord c.code) c.fetched
  pub instructions : AllByRecursion (HasInstruction c.code) c.decoded
  pub ordered : Ordered c.front.epoch (waiting c)
  pub marks : OnlyFrontServed c.outcomes
  -- no decoded item uses what an outcome or an older item writes
  pub clear : AllByRecursion (λ o. NoneUses (outcome_destination o) c.decoded) c.outcomes
  pub apart : Apart c.decoded

-- the run of the core's code from its entry, with these replies, of so many instructions
abbrev pub run_of : CoreState → List ℕ → ℕ → RunState
run_of c replies n = isa c.code c.entry replies n

-- the core stands for a trace: for the run that reads the trace's replies
pub record Stands (c : CoreState) (t : List Event) : Type 0 where
  -- the run commits the instructions that are done, its trace is this one, and its RAM is the core's
  pub commits : (run_of c (reply_values t) (done_of c)).committed ≡ done_of c
  pub trace : (run_of c (reply_values t) (done_of c)).trace ≡ t
  pub ram : (run_of c (reply_values t) (done_of c)).processor.ram ≡ c.ram
  -- the registers are those of the run of the retired instructions
  pub registers : (run_of c (reply_values t) c.retired).processor.registers ≡ c.registers
  -- the cause that halts the core halts that run
  pub halted : IfSome c.halted (λ cause. IsHaltedBy cause c.code (run_of c (reply_values t) c.retired))
  pub in_order : AreInOrder c
  -- whatever replies are still to come, the outcomes are the run's from the retired instructions on, and what waits follows them
  pub ahead : (more : List ℕ) → Ahead c.code c.outcomes (run_of c (reply_values t ++ more) c.retired) (Behind c)

-- a trace and maybe one more event
abbrev pub with_event : List Event → Option Event → List Event
with_event t None = t
with_event t (Some event) = t ++ event ∷ []

-- whatever the first core stands for, the second stands for it with the event behind
abbrev pub StandsAfter : CoreState → CoreState → Option Event → Type 0
StandsAfter c d event = (t : List Event) → Stands c t → Stands d (with_event t event)
