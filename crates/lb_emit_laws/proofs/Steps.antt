-- What the processor does at instruction number i of a code. The count of the instructions is left out of a run's state here, so that
-- a state is told by what it holds alone.
use Rattle.std.proofs.Common.{◌≡◌, ℕ, ◌+◌, ◌*◌, ◌/◌, ◌%◌, ◌^◌, ◌≤◌, ◌<◌, ◌⊎◌, inl, inr, true, false, nat_le, nat_lt, ◌&&◌, if◌then◌else◌, List, [], ◌∷◌, ◌++◌, length, Option, Some, None, ap, ◌∙◌, arith, Bool}
use Rattle.std.specs.Option.{option_map}
use Rattle.std.specs.Prelude.{slice_get, ◌==◌}
use Rattle.std.specs.Int.{w32, cast_signed}
use Rattle.std.proofs.lemmas.Bool.{eq-eqb, ne_eqb, le-leb, le-ltb, lt-leb, leb-true, and_parts, or_cases}
use Rattle.std.proofs.lemmas.Int.{of_z-to_z}
use Rattle.lb_memory.specs.Map.{is_device}
use Rattle.lb_trace.specs.declared.Event.{Event}
use Rattle.lb_trace.specs.declared.Event.TheVariants.{Ld, St}
use Rattle.lb_rv.specs.declared.instr.Instr.{Instr}
use Rattle.lb_rv.specs.Effects.{Effect, Access, access, access_of, effect, sources, destination, next_address, plus_immediate}
use Rattle.lb_rv.specs.Effects as effects
use Rattle.lb_outcome.specs.declared.types.Outcome.TheVariants as outcome
use Rattle.lb_outcome.specs.declared.types.Executed.{Executed}
use Rattle.lb_outcome.specs.Fetching.{word_at, instruction_in, left_source, right_source}
use Rattle.lb_outcome.specs.MemoryMap.{is_device_word, is_in_ram}
use Rattle.lb_outcome.specs.Outcomes.{executed, outcome_of, comes_to, load_outcome, store_outcome}
use Rattle.lb_outcome.specs.Ram.{number_at, with_bytes, loaded, stored}
use Rattle.lb_outcome.specs.Registers.{with_register}
use Rattle.lb_isa.specs.declared.processor.Stepped.TheVariants.{WantsReply}
use Rattle.lb_isa.specs.State.{RunState}
use Rattle.lb_isa.specs.Moves.{answer, commit, goes_on, move, next_answer, upcoming}
use Rattle.lb_emit_laws.proofs.Bytes.{Bytes, Registers, IsWritable}
use Rattle.lb_emit_laws.proofs.Places.{IsAt, is_within}

-- ---- runs without their count

abbrev pub uncounted : RunState → RunState
uncounted s = record { processor = s.processor; replies = s.replies; trace = s.trace; committed = 0 }

-- one more instruction
abbrev pub advance : List ℕ → RunState → Option RunState
advance code s = option_map uncounted (move code s)

-- a run before instruction number i
abbrev pub at : ℕ → Registers → Bytes → List ℕ → List Event → RunState
at i registers ram replies trace = record { processor = goes_on (4 * i) registers ram; replies = replies; trace = trace; committed = 0 }

-- what a run has shown
abbrev pub trace_of : RunState → List Event
trace_of s = s.trace

-- the next instruction wants a reply
abbrev pub IsWaiting : List ℕ → RunState → Type 0
IsWaiting code s = next_answer code (slice_get s.replies 0) s.processor ≡ WantsReply

-- ---- the outcome of the next instruction

-- the effect of the instruction x at number i
abbrev pub effect_at : Instr → ℕ → Registers → Effect
effect_at x i registers = effect x (4 * i) (registers (sources x).0) (registers (sources x).1)

word_at-number : (code : List ℕ) (i : ℕ) → word_at code (4 * i) ≡ slice_get code i
word_at-number code i =
    let aligned : 4 * i % 4 ≡ 0 = omega arith in
    let place : 4 * i / 4 ≡ i = omega arith in
    ap (λ (b : Bool). if b then slice_get code (4 * i / 4) else None) (eq-eqb (4 * i % 4) 0 aligned) ∙ ap (slice_get code) place

executed-at : (n pc : ℕ) (registers : Registers) (o : Option ℕ) (x : Instr) → instruction_in o ≡ Some x
    → executed n pc o (instruction_in o) (registers (left_source (instruction_in o))) (registers (right_source (instruction_in o)))
    ≡ outcome_of n x pc (effect x pc (registers (sources x).0) (registers (sources x).1))
executed-at n pc registers None x h = cc
executed-at n pc registers (Some w) x h =
    ap (λ (j : Option Instr). executed n pc (Some w) j (registers (left_source j)) (registers (right_source j))) h

outcome-at : (code : List ℕ) (i : ℕ) (registers : Registers) (ram : Bytes) (x : Instr) → IsAt code i x
    → upcoming code (goes_on (4 * i) registers ram) ≡ outcome_of (4 * length code) x (4 * i) (effect_at x i registers)
outcome-at code i registers ram x here =
    ap (λ (o : Option ℕ). executed (4 * length code) (4 * i) o (instruction_in o) (registers (left_source (instruction_in o))) (registers (right_source (instruction_in o))))
    (word_at-number code i) ∙ executed-at (4 * length code) (4 * i) registers (slice_get code i) x here

-- what an outcome does to the run
abbrev done : Executed → ℕ → Registers → Bytes → List ℕ → List Event → Option RunState
done e i registers ram replies trace = option_map uncounted (commit e.outcome e.next (at i registers ram replies trace))

-- the instruction x at number i, with this effect
step-at : (code : List ℕ) (i : ℕ) (registers : Registers) (ram : Bytes) (replies : List ℕ) (trace : List Event) (x : Instr) (f : Effect) → IsAt code i x
    → effect_at x i registers ≡ f
    → advance code (at i registers ram replies trace) ≡ done (outcome_of (4 * length code) x (4 * i) f) i registers ram replies trace
step-at code i registers ram replies trace x f here e =
    ap (λ (o : Executed). done o i registers ram replies trace) (outcome-at code i registers ram x here)
    ∙ ap (λ g. done (outcome_of (4 * length code) x (4 * i) g) i registers ram replies trace) e

-- ---- numbers

-- an immediate that is given as a word
pub plus_word : (x n : ℕ) → n < 2 ^ 32 → plus_immediate x (cast_signed w32 n) ≡ (x + n) % 2 ^ 32
plus_word x n h = ap (λ k. (x + k) % 2 ^ 32) (of_z-to_z w32 n h)

range_high : (a : ℕ) → (nat_le 0x10012000 a && nat_le a 0x10012FFF ≡ true) ⊎ (nat_le 0x10024000 a && nat_le a 0x10024FFF ≡ true) → 0x40000 < a
range_high a (inl h) = omega (arith, leb-true 0x10012000 a (and_parts (nat_le 0x10012000 a) (nat_le a 0x10012FFF) h).0)
range_high a (inr h) = omega (arith, leb-true 0x10024000 a (and_parts (nat_le 0x10024000 a) (nat_le a 0x10024FFF) h).0)

-- no word of a device lies in RAM
device_high : (a : ℕ) → is_device_word 4 a ≡ true → is_in_ram 4 a ≡ false
device_high a h =
    let d = (and_parts (a % 4 == 0) (is_device a) h).1 in
    lt-leb (a + 4) 0x40000 (omega (arith, range_high a (or_cases _ _ d)))

in_ram : (n a : ℕ) → a + n ≤ 0x40000 → is_in_ram n a ≡ true
in_ram n a h = le-leb (a + n) 0x40000 h

-- what a load without a sign reads in RAM
loaded-plain : (x : Instr) (n a : ℕ) (ram : Bytes) → access x ≡ access_of n false → a + n ≤ 0x40000 → loaded x a ram ≡ number_at n a ram
unfolding loaded
loaded-plain x n a ram e h =
    ap (λ (k : Access). if is_in_ram k.bytes a then effects.loaded_word k (number_at k.bytes a ram) else 0) e
    ∙ ap (λ (b : Bool). if b then number_at n a ram else 0) (in_ram n a h)

stored-plain : (x : Instr) (n a v : ℕ) (ram : Bytes) → access x ≡ access_of n false → a + n ≤ 0x40000 → stored x a v ram ≡ with_bytes n a v ram
unfolding stored
stored-plain x n a v ram e h =
    ap (λ (k : Access). if is_in_ram k.bytes a then with_bytes k.bytes a v ram else ram) e
    ∙ ap (λ (b : Bool). if b then with_bytes n a v ram else ram) (in_ram n a h)

module _ (code : List ℕ) (small : length code ≤ 32768) where
  pub next_address-at : (i : ℕ) (x : Instr) → IsAt code i x → next_address (4 * i) ≡ 4 * (i + 1)
  next_address-at i x here = let within = is_within code i x here in omega (arith, within, small)

  pub below_end : (i : ℕ) (x : Instr) → IsAt code i x → i < 32768
  below_end i x here = let within = is_within code i x here in omega (arith, within, small)

  -- an instruction that sets a register
  pub step_sets : (i : ℕ) (registers : Registers) (ram : Bytes) (replies : List ℕ) (trace : List Event) (x : Instr) (rd v : ℕ) → IsAt code i x
      → destination x ≡ rd → IsWritable rd → effect_at x i registers ≡ effects.Sets v (next_address (4 * i))
      → advance code (at i registers ram replies trace) ≡ Some (at (i + 1) (with_register rd v registers) ram replies trace)
  step_sets i registers ram replies trace x rd v here d some e =
      step-at code i registers ram replies trace x _ here e
      ∙ ap (λ k. Some (record { processor = goes_on (next_address (4 * i)) (with_register k (if k == 0 then 0 else v) registers) ram; replies = replies; trace = trace; committed = 0 })) d
      ∙ ap (λ (b : Bool). Some (record { processor = goes_on (next_address (4 * i)) (with_register rd (if b then 0 else v) registers) ram; replies = replies; trace = trace; committed = 0 })) (ne_eqb rd 0 (omega (arith, some.0)))
      ∙ ap (λ p. Some (record { processor = goes_on p (with_register rd v registers) ram; replies = replies; trace = trace; committed = 0 })) (next_address-at i x here)

  -- a jump that sets no register, to instruction number j
  pub step_jumps : (i j : ℕ) (registers : Registers) (ram : Bytes) (replies : List ℕ) (trace : List Event) (x : Instr) (to : ℕ) → IsAt code i x
      → destination x ≡ 0 → effect_at x i registers ≡ effects.Sets (next_address (4 * i)) to → to ≡ 4 * j
      → advance code (at i registers ram replies trace) ≡ Some (at j registers ram replies trace)
  step_jumps i j registers ram replies trace x to here d e there =
      step-at code i registers ram replies trace x _ here e
      ∙ ap (λ k. Some (record { processor = goes_on to (with_register k (if k == 0 then 0 else next_address (4 * i)) registers) ram; replies = replies; trace = trace; committed = 0 })) d
      ∙ ap (λ p. Some (record { processor = goes_on p registers ram; replies = replies; trace = trace; committed = 0 })) there

  -- a jump that sets register 1
  pub step_links : (i j : ℕ) (registers : Registers) (ram : Bytes) (replies : List ℕ) (trace : List Event) (x : Instr) (to : ℕ) → IsAt code i x
      → destination x ≡ 1 → effect_at x i registers ≡ effects.Sets (next_address (4 * i)) to → to ≡ 4 * j
      → advance code (at i registers ram replies trace) ≡ Some (at j (with_register 1 (4 * (i + 1)) registers) ram replies trace)
  step_links i j registers ram replies trace x to here d e there =
      step-at code i registers ram replies trace x _ here e
      ∙ ap (λ k. Some (record { processor = goes_on to (with_register k (if k == 0 then 0 else next_address (4 * i)) registers) ram; replies = replies; trace = trace; committed = 0 })) d
      ∙ ap (λ p. Some (record { processor = goes_on p (with_register 1 (next_address (4 * i)) registers) ram; replies = replies; trace = trace; committed = 0 })) there
      ∙ ap (λ v. Some (at j (with_register 1 v registers) ram replies trace)) (next_address-at i x here)

  -- a branch, to instruction number j
  pub step_goes : (i j : ℕ) (registers : Registers) (ram : Bytes) (replies : List ℕ) (trace : List Event) (x : Instr) (to : ℕ) → IsAt code i x
      → destination x ≡ 0 → effect_at x i registers ≡ effects.Goes to → to ≡ 4 * j
      → advance code (at i registers ram replies trace) ≡ Some (at j registers ram replies trace)
  step_goes i j registers ram replies trace x to here d e there =
      step-at code i registers ram replies trace x _ here e
      ∙ ap (λ k. Some (record { processor = goes_on to (with_register k (if k == 0 then 0 else 0) registers) ram; replies = replies; trace = trace; committed = 0 })) d
      ∙ ap (λ p. Some (record { processor = goes_on p registers ram; replies = replies; trace = trace; committed = 0 })) there

  -- a load from RAM, without a sign
  pub step_loads : (i n a : ℕ) (registers : Registers) (ram : Bytes) (replies : List ℕ) (trace : List Event) (x : Instr) (rd : ℕ) → IsAt code i x
      → destination x ≡ rd → access x ≡ access_of n false → effect_at x i registers ≡ effects.Loads a → a + n ≤ 0x40000
      → advance code (at i registers ram replies trace) ≡ Some (at (i + 1) (with_register rd (number_at n a ram) registers) ram replies trace)
  step_loads i n a registers ram replies trace x rd here d taken e inside =
      step-at code i registers ram replies trace x _ here e
      ∙ ap (λ (k : Access). done (load_outcome (is_in_ram k.bytes a) (is_device_word k.bytes a) x (4 * i) a) i registers ram replies trace) taken
      ∙ ap (λ (b : Bool). done (load_outcome b (is_device_word n a) x (4 * i) a) i registers ram replies trace) (in_ram n a inside)
      ∙ ap (λ k. Some (record { processor = goes_on (next_address (4 * i)) (with_register k (loaded x a ram) registers) ram; replies = replies; trace = trace; committed = 0 })) d
      ∙ ap (λ v. Some (record { processor = goes_on (next_address (4 * i)) (with_register rd v registers) ram; replies = replies; trace = trace; committed = 0 })) (loaded-plain x n a ram taken inside)
      ∙ ap (λ p. Some (record { processor = goes_on p (with_register rd (number_at n a ram) registers) ram; replies = replies; trace = trace; committed = 0 })) (next_address-at i x here)

  -- a store to RAM behind the code
  pub step_stores : (i n a v : ℕ) (registers : Registers) (ram : Bytes) (replies : List ℕ) (trace : List Event) (x : Instr) → IsAt code i x
      → access x ≡ access_of n false → effect_at x i registers ≡ effects.Stores a v → a + n ≤ 0x40000 → 4 * length code ≤ a
      → advance code (at i registers ram replies trace) ≡ Some (at (i + 1) registers (with_bytes n a v ram) replies trace)
  step_stores i n a v registers ram replies trace x here taken e inside behind =
      step-at code i registers ram replies trace x _ here e
      ∙ ap (λ (k : Access). done (store_outcome (is_in_ram k.bytes a) (nat_lt a (4 * length code)) (is_device_word k.bytes a) x (4 * i) a v) i registers ram replies trace) taken
      ∙ ap (λ (b : Bool). done (store_outcome b (nat_lt a (4 * length code)) (is_device_word n a) x (4 * i) a v) i registers ram replies trace) (in_ram n a inside)
      ∙ ap (λ (b : Bool). done (store_outcome true b (is_device_word n a) x (4 * i) a v) i registers ram replies trace) (le-ltb a (4 * length code) behind)
      ∙ ap (λ (left : Bytes). Some (record { processor = goes_on (next_address (4 * i)) registers left; replies = replies; trace = trace; committed = 0 })) (stored-plain x n a v ram taken inside)
      ∙ ap (λ p. Some (record { processor = goes_on p registers (with_bytes n a v ram); replies = replies; trace = trace; committed = 0 })) (next_address-at i x here)

  -- the outcome of a load from a device
  device_load : (i a : ℕ) (registers : Registers) (ram : Bytes) (x : Instr) → IsAt code i x → access x ≡ access_of 4 false → effect_at x i registers ≡ effects.Loads a
      → is_device_word 4 a ≡ true → upcoming code (goes_on (4 * i) registers ram) ≡ comes_to (outcome.Load x a true None) (next_address (4 * i))
  device_load i a registers ram x here taken e device =
      outcome-at code i registers ram x here
      ∙ ap (λ f. outcome_of (4 * length code) x (4 * i) f) e
      ∙ ap (λ (k : Access). load_outcome (is_in_ram k.bytes a) (is_device_word k.bytes a) x (4 * i) a) taken
      ∙ ap (λ (b : Bool). load_outcome b (is_device_word 4 a) x (4 * i) a) (device_high a device)
      ∙ ap (λ (b : Bool). load_outcome false b x (4 * i) a) device

  -- a load from a device with a reply
  pub step_asks : (i a v : ℕ) (registers : Registers) (ram : Bytes) (replies : List ℕ) (trace : List Event) (x : Instr) (rd : ℕ) → IsAt code i x
      → destination x ≡ rd → access x ≡ access_of 4 false → effect_at x i registers ≡ effects.Loads a → is_device_word 4 a ≡ true
      → advance code (at i registers ram (v ∷ replies) trace) ≡ Some (at (i + 1) (with_register rd v registers) ram replies (trace ++ Ld a v ∷ []))
  step_asks i a v registers ram replies trace x rd here d taken e device =
      ap (λ (o : Executed). done o i registers ram (v ∷ replies) trace) (device_load i a registers ram x here taken e device)
      ∙ ap (λ k. Some (record { processor = goes_on (next_address (4 * i)) (with_register k v registers) ram; replies = replies; trace = trace ++ Ld a v ∷ []; committed = 0 })) d
      ∙ ap (λ p. Some (record { processor = goes_on p (with_register rd v registers) ram; replies = replies; trace = trace ++ Ld a v ∷ []; committed = 0 })) (next_address-at i x here)

  -- a load from a device with no reply left
  pub step_wants : (i a : ℕ) (registers : Registers) (ram : Bytes) (trace : List Event) (x : Instr) → IsAt code i x
      → access x ≡ access_of 4 false → effect_at x i registers ≡ effects.Loads a → is_device_word 4 a ≡ true
      → IsWaiting code (at i registers ram [] trace)
  step_wants i a registers ram trace x here taken e device =
      ap (λ (o : Executed). answer o.outcome None) (device_load i a registers ram x here taken e device)

  -- a store to a device
  pub step_tells : (i a v : ℕ) (registers : Registers) (ram : Bytes) (replies : List ℕ) (trace : List Event) (x : Instr) → IsAt code i x
      → access x ≡ access_of 4 false → effect_at x i registers ≡ effects.Stores a v → is_device_word 4 a ≡ true
      → advance code (at i registers ram replies trace) ≡ Some (at (i + 1) registers ram replies (trace ++ St a v ∷ []))
  step_tells i a v registers ram replies trace x here taken e device =
      step-at code i registers ram replies trace x _ here e
      ∙ ap (λ (k : Access). done (store_outcome (is_in_ram k.bytes a) (nat_lt a (4 * length code)) (is_device_word k.bytes a) x (4 * i) a v) i registers ram replies trace) taken
      ∙ ap (λ (b : Bool). done (store_outcome b (nat_lt a (4 * length code)) (is_device_word 4 a) x (4 * i) a v) i registers ram replies trace) (device_high a device)
      ∙ ap (λ (b : Bool). done (store_outcome false (nat_lt a (4 * length code)) b x (4 * i) a v) i registers ram replies trace) device
      ∙ ap (λ p. Some (record { processor = goes_on p registers ram; replies = replies; trace = trace ++ St a v ∷ []; committed = 0 })) (next_address-at i x here)
