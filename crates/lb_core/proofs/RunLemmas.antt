-- What one instruction of the run does, and that an item that is right is executed as the run does.
use Rattle.std.proofs.Common.{◌≡◌, ◌≢◌, ℕ, ◌+◌, ◌*◌, Bool, true, false, ◌||◌, nat_lt, if◌then◌else◌, List, [], ◌∷◌, ◌++◌, length, slice_get, Option, Some, None, refl, sym, ap, ◌∙◌, arith, append-nil}
use Rattle.std.specs.Option.{option_map_or}
use Rattle.std.proofs.lemmas.Bool.{or_parts}
use Rattle.std.proofs.lemmas.List.{append_cancel_left}
use Rattle.lb_trace.specs.Trace.{reply_values}
use Rattle.lb_steps.proofs.GrowthLemmas.{run-keeps}
use Rattle.lb_trace.specs.declared.Event.{Event}
use Rattle.lb_rv.specs.declared.instr.Instr.{Instr}
use Rattle.lb_rv.specs.Effects.{Effect, Sets, Goes, Loads, Stores, Stops, access, destination, effect}
use Rattle.lb_steps.specs.Runs.{run}
use Rattle.lb_steps.proofs.RunLemmas.{run-one_more, run-add}
use Rattle.lb_outcome.specs.declared.types.Outcome.{Outcome}
use Rattle.lb_outcome.specs.declared.types.Outcome.TheVariants.{Plain, Load, Store, Halt}
use Rattle.lb_outcome.specs.Fetching.{word_at, instruction_in, left_source, right_source}
use Rattle.lb_outcome.specs.MemoryMap.{is_in_ram, is_device_word}
use Rattle.lb_outcome.specs.Outcomes.{executed, load_outcome, outcome_of, store_outcome}
use Rattle.lb_outcome.specs.Ram.{loaded}
use Rattle.lb_outcome.specs.Registers.{is_written, with_register}
use Rattle.lb_exec.specs.declared.item.DecodeItem.{DecodeItem}
use Rattle.lb_exec.specs.Execution.{execution}
use Rattle.lb_isa.specs.State.{ProcessorState, RunState, with_more}
use Rattle.lb_isa.specs.Moves.{after, answer, commit, move, moved, upcoming}
use Rattle.lb_isa.specs.Runs.{isa, start}
use Rattle.lb_isa.proofs.MoveLemmas.{move_committed, move_reads}
use Rattle.lb_isa.proofs.RunLemmas.{run_at_most, run_more}
use Rattle.lb_core.specs.Rows.{is_halt}
use Rattle.lb_core.specs.Scoreboard.{outcome_destination, uses, written_register}
use Rattle.lb_core.specs.Stands.{HasOperands, IsUnserved}

-- ---- runs from boot

-- one more instruction
pub isa_next : (code : List ℕ) (entry : ℕ) (rs : List ℕ) (n : ℕ) (t : RunState) → move code (isa code entry rs n) ≡ Some t → isa code entry rs (n + 1) ≡ t
isa_next code entry rs n t h = run-one_more (move code) n (start code entry rs) t h

last_of : (code : List ℕ) (s : RunState) (o : Option RunState) → move code s ≡ o → (option_map_or (run (move code) 0) o s).committed ≢ s.committed
    → o ≡ Some (option_map_or (run (move code) 0) o s)
last_of code s None h few = absurd (few refl)
last_of code s (Some t) h few = refl

-- where one more instruction is committed, it is the last move
pub isa_last : (code : List ℕ) (entry : ℕ) (rs : List ℕ) (n : ℕ) → (isa code entry rs (n + 1)).committed ≡ n + 1
    → move code (isa code entry rs n) ≡ Some (isa code entry rs (n + 1))
isa_last code entry rs n h =
    let s = isa code entry rs n in
    let most = run_at_most code n (start code entry rs) in
    let whole : isa code entry rs (n + 1) ≡ run (move code) 1 s = run-add (move code) n 1 (start code entry rs) in
    last_of code s (move code s) refl (λ same. omega (arith, most, same, h, ap (λ (u : RunState). u.committed) whole)) ∙ ap Some (sym whole)

-- and those before it are committed
pub isa_before : (code : List ℕ) (entry : ℕ) (rs : List ℕ) (n : ℕ) → (isa code entry rs (n + 1)).committed ≡ n + 1 → (isa code entry rs n).committed ≡ n
isa_before code entry rs n h =
    let one = move_committed code (isa code entry rs n) (isa code entry rs (n + 1)) (isa_last code entry rs n h) in omega (arith, one, h)

-- more replies change nothing of what is committed
pub isa_more : (code : List ℕ) (entry : ℕ) (rs more : List ℕ) (n : ℕ) → (isa code entry rs n).committed ≡ n
    → isa code entry (rs ++ more) n ≡ with_more more (isa code entry rs n)
isa_more code entry rs more n h = run_more more code n (start code entry rs) (omega (arith, h))

-- the values that its trace read and the replies that are left are its replies
isa_reads : (code : List ℕ) (entry : ℕ) (rs : List ℕ) (n : ℕ) → reply_values (isa code entry rs n).trace ++ (isa code entry rs n).replies ≡ rs
isa_reads code entry rs n =
    run-keeps (move code) (λ (s : RunState). reply_values s.trace ++ s.replies ≡ rs) (λ s t h same. move_reads code s t h ∙ same) n
    (start code entry rs) refl

-- none is left where its trace read them all
pub isa_none_left : (code : List ℕ) (entry : ℕ) (t : List Event) (n : ℕ) → (isa code entry (reply_values t) n).trace ≡ t
    → (isa code entry (reply_values t) n).replies ≡ []
isa_none_left code entry t n h =
    let left = (isa code entry (reply_values t) n).replies in
    append_cancel_left (reply_values t) left []
    (ap (λ l. reply_values l ++ left) (sym h) ∙ isa_reads code entry (reply_values t) n ∙ sym (append-nil (reply_values t)))

-- ---- what a move does

abbrev pub processor_or : ProcessorState → Option RunState → ProcessorState
processor_or p None = p
processor_or p (Some t) = t.processor

takes_pc : (rs : List ℕ) (i : Instr) (a next : ℕ) (s t : RunState)
    → moved (answer (Load i a true None) (slice_get rs 0)) (after (Load i a true None) next (slice_get rs 0) s.processor) s ≡ Some t
    → t.processor.pc ≡ next
takes_pc [] i a next s t h = absurd (cc h)
takes_pc (v ∷ vs) i a next s t h = sym (ap (λ o. (processor_or s.processor o).pc) h)

-- the next instruction is where the outcome says
pub commit_pc : (o : Outcome) (next : ℕ) (s t : RunState) → commit o next s ≡ Some t → t.processor.pc ≡ next
commit_pc (Plain rd v) next s t h = sym (ap (λ o. (processor_or s.processor o).pc) h)
commit_pc (Load i a false served) next s t h = sym (ap (λ o. (processor_or s.processor o).pc) h)
commit_pc (Load i a true served) next s t h = takes_pc s.replies i a next s t h
commit_pc (Store i a v false served) next s t h = sym (ap (λ o. (processor_or s.processor o).pc) h)
commit_pc (Store i a v true served) next s t h = sym (ap (λ o. (processor_or s.processor o).pc) h)
commit_pc (Halt cause) next s t h = absurd (cc h)

-- what commits is no halt
pub commit_runs : (o : Outcome) (next : ℕ) (s t : RunState) → commit o next s ≡ Some t → is_halt o ≡ false
commit_runs (Plain rd v) next s t h = refl
commit_runs (Load i a mmio served) next s t h = refl
commit_runs (Store i a v mmio served) next s t h = refl
commit_runs (Halt cause) next s t h = absurd (cc h)

-- ---- registers that aren't written

unwritten : (r x v : ℕ) (registers : ℕ → ℕ) → is_written r x ≡ false → with_register r v registers x ≡ registers x
unwritten r x v registers h = ap (λ b. if b then v else registers x) h

takes_unwritten : (rs : List ℕ) (i : Instr) (a next : ℕ) (s t : RunState) (x : ℕ) → is_written (destination i) x ≡ false
    → moved (answer (Load i a true None) (slice_get rs 0)) (after (Load i a true None) next (slice_get rs 0) s.processor) s ≡ Some t
    → t.processor.registers x ≡ s.processor.registers x
takes_unwritten [] i a next s t x n h = absurd (cc h)
takes_unwritten (v ∷ vs) i a next s t x n h =
    sym (ap (λ o. (processor_or s.processor o).registers x) h) ∙ unwritten (destination i) x v s.processor.registers n

commit_unwritten : (o : Outcome) (next : ℕ) (s t : RunState) (x : ℕ) → is_written (outcome_destination o) x ≡ false → commit o next s ≡ Some t
    → t.processor.registers x ≡ s.processor.registers x
commit_unwritten (Plain rd v) next s t x n h =
    sym (ap (λ o. (processor_or s.processor o).registers x) h) ∙ unwritten rd x v s.processor.registers n
commit_unwritten (Load i a false served) next s t x n h =
    sym (ap (λ o. (processor_or s.processor o).registers x) h) ∙ unwritten (destination i) x (loaded i a s.processor.ram) s.processor.registers n
commit_unwritten (Load i a true served) next s t x n h = takes_unwritten s.replies i a next s t x n h
commit_unwritten (Store i a v false served) next s t x n h = sym (ap (λ o. (processor_or s.processor o).registers x) h)
commit_unwritten (Store i a v true served) next s t x n h = sym (ap (λ o. (processor_or s.processor o).registers x) h)
commit_unwritten (Halt cause) next s t x n h = absurd (cc h)

-- the registers that an instruction reads hold the same
pub record SameOperands (i : Option Instr) (f g : ℕ → ℕ) : Type 0 where
  pub left : f (left_source i) ≡ g (left_source i)
  pub right : f (right_source i) ≡ g (right_source i)

-- so they do behind an outcome that writes nothing that the instruction uses
pub commit_operands : (i : Option Instr) (o : Outcome) (next : ℕ) (s t : RunState) (g : ℕ → ℕ) → uses i (outcome_destination o) ≡ false
    → commit o next s ≡ Some t → SameOperands i s.processor.registers g → SameOperands i t.processor.registers g
commit_operands i o next s t g n h q =
    let r = outcome_destination o in
    let sources = (or_parts (is_written r (left_source i) || is_written r (right_source i)) (is_written r (written_register i)) n).0 in
    let each = or_parts (is_written r (left_source i)) (is_written r (right_source i)) sources in
    record {
      left = commit_unwritten o next s t (left_source i) each.0 h ∙ q.left;
      right = commit_unwritten o next s t (right_source i) each.1 h ∙ q.right;
    }

-- ---- what execution makes: an outcome that isn't served

load_unserved : (ram device : Bool) (i : Instr) (pc a : ℕ) → IsUnserved (load_outcome ram device i pc a).outcome
load_unserved true device i pc a = refl
load_unserved false true i pc a = refl
load_unserved false false i pc a = refl

store_unserved : (ram code device : Bool) (i : Instr) (pc a v : ℕ) → IsUnserved (store_outcome ram code device i pc a v).outcome
store_unserved true true device i pc a v = refl
store_unserved true false device i pc a v = refl
store_unserved false code true i pc a v = refl
store_unserved false code false i pc a v = refl

effect_unserved : (size : ℕ) (i : Instr) (pc : ℕ) (e : Effect) → IsUnserved (outcome_of size i pc e).outcome
effect_unserved size i pc (Sets v next) = refl
effect_unserved size i pc (Goes next) = refl
effect_unserved size i pc (Loads a) = load_unserved (is_in_ram (access i).bytes a) (is_device_word (access i).bytes a) i pc a
effect_unserved size i pc (Stores a v) =
    store_unserved (is_in_ram (access i).bytes a) (nat_lt a size) (is_device_word (access i).bytes a) i pc a v
effect_unserved size i pc (Stops cause) = refl

pub executed_unserved : (size pc : ℕ) (w : Option ℕ) (i : Option Instr) (a b : ℕ) → IsUnserved (executed size pc w i a b).outcome
executed_unserved size pc None i a b = refl
executed_unserved size pc (Some w) None a b = refl
executed_unserved size pc (Some w) (Some i) a b = effect_unserved size i pc (effect i pc a b)

-- ---- its destination is the instruction's, or none

load_clear : (user : Option Instr) (ram device : Bool) (i : Instr) (pc a : ℕ) → uses user (destination i) ≡ false
    → uses user (outcome_destination (load_outcome ram device i pc a).outcome) ≡ false
load_clear user true device i pc a h = h
load_clear user false true i pc a h = h
load_clear user false false i pc a h = refl

store_clear : (user : Option Instr) (ram code device : Bool) (i : Instr) (pc a v : ℕ)
    → uses user (outcome_destination (store_outcome ram code device i pc a v).outcome) ≡ false
store_clear user true true device i pc a v = refl
store_clear user true false device i pc a v = refl
store_clear user false code true i pc a v = refl
store_clear user false code false i pc a v = refl

effect_clear : (user : Option Instr) (size : ℕ) (i : Instr) (pc : ℕ) (e : Effect) → uses user (destination i) ≡ false
    → uses user (outcome_destination (outcome_of size i pc e).outcome) ≡ false
effect_clear user size i pc (Sets v next) h = h
effect_clear user size i pc (Goes next) h = h
effect_clear user size i pc (Loads a) h = load_clear user (is_in_ram (access i).bytes a) (is_device_word (access i).bytes a) i pc a h
effect_clear user size i pc (Stores a v) h =
    store_clear user (is_in_ram (access i).bytes a) (nat_lt a size) (is_device_word (access i).bytes a) i pc a v
effect_clear user size i pc (Stops cause) h = refl

pub executed_clear : (user : Option Instr) (size pc : ℕ) (w : Option ℕ) (i : Option Instr) (a b : ℕ) → uses user (written_register i) ≡ false
    → uses user (outcome_destination (executed size pc w i a b).outcome) ≡ false
executed_clear user size pc None i a b h = refl
executed_clear user size pc (Some w) None a b h = refl
executed_clear user size pc (Some w) (Some i) a b h = effect_clear user size i pc (effect i pc a b) h

-- ---- an item that is right is executed as the run does

pub execution_is : (code : List ℕ) (d : DecodeItem) (p : ProcessorState) → d.pc ≡ p.pc → d.word ≡ word_at code d.pc
    → d.instruction ≡ instruction_in d.word → HasOperands d p.registers → execution d (4 * length code) ≡ upcoming code p
execution_is code d p hp hw hi ho =
    let n = 4 * length code in
    let word = word_at code p.pc in
    let w : d.word ≡ word_at code p.pc = hw ∙ ap (word_at code) hp in
    let i : d.instruction ≡ instruction_in (word_at code p.pc) = hi ∙ ap instruction_in w in
    let l : d.left ≡ p.registers (left_source (instruction_in (word_at code p.pc))) = ho.0 ∙ ap (λ (j : Option Instr). p.registers (left_source j)) i in
    let r : d.right ≡ p.registers (right_source (instruction_in (word_at code p.pc))) = ho.1 ∙ ap (λ (j : Option Instr). p.registers (right_source j)) i in
    ap (λ q. executed n q d.word d.instruction d.left d.right) hp
    ∙ ap (λ q. executed n p.pc q d.instruction d.left d.right) w
    ∙ ap (λ q. executed n p.pc (word_at code p.pc) q d.left d.right) i
    ∙ ap (λ q. executed n p.pc (word_at code p.pc) (instruction_in (word_at code p.pc)) q d.right) l
    ∙ ap (λ q. executed n p.pc (word_at code p.pc) (instruction_in (word_at code p.pc)) (p.registers (left_source (instruction_in (word_at code p.pc)))) q) r
