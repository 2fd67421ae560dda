-- What a run of code comes to: states of placed code that are reached, what a call owes, and tests of a register.
use Rattle.std.proofs.Common.{◌≡◌, ℕ, ◌+◌, ◌*◌, ◌%◌, ◌^◌, ◌≤◌, ◌<◌, Bool, true, false, ◌&&◌, if◌then◌else◌, List, length, Some, None, refl, sym, ap, ◌∙◌, subst, arith}
use Rattle.std.proofs.lemmas.Bool.{eq-eqb, eqb-true, ne_eqb}
use Rattle.std.specs.Prelude.{◌==◌}
use Rattle.lb_memory.specs.Map.{is_device}
use Rattle.lb_trace.specs.declared.Event.{Event}
use Rattle.lb_steps.proofs.MoveLemmas.{Moves-none, Moves-one, Moves-then, LeadsTo}
use Rattle.lb_steps.proofs.Simulation.{Tests, fits, move_behind}
use Rattle.lb_source.specs.Correct.{AreWords}
use Rattle.lb_source.specs.Maps.{Memory}
use Rattle.lb_source.specs.Run.{address_fault}
use Rattle.lb_source.specs.declared.ends.Reason.TheVariants.{Unaligned, OutOfRange}
use Rattle.lb_word.specs.Word.{eq_of}
use Rattle.lb_rv.specs.Effects.{next_address, plus_immediate}
use Rattle.lb_rv.specs.Effects as effects
use Rattle.lb_outcome.specs.MemoryMap.{is_device_word}
use Rattle.lb_isa.specs.State.{RunState}
use Rattle.lb_flat.specs.declared.places.Place.{Place}
use Rattle.lb_flat.specs.Code.{Routine}
use Rattle.lb_flat.specs.Cells.{Cells}
use Rattle.lb_flat.specs.Run.{World, Outcome, Caller}
use Rattle.lb_emit_laws.specs.Instructions.{immediate, jump, skip_unless_zero}
use Rattle.lb_emit_laws.specs.Code.{over_by, over_code, over_words_by, over_words}
use Rattle.lb_emit_laws.specs.Frames.{Frame, slot_offset}
use Rattle.lb_emit_laws.proofs.Bytes.{Bytes, Registers, read_same}
use Rattle.lb_emit_laws.proofs.Owned.{is_owned, Holds, unowned_below}
use Rattle.lb_emit_laws.proofs.Places.{IsAt, HasAt}
use Rattle.lb_emit_laws.proofs.Steps.{advance, at, trace_of, IsWaiting, next_address-at, below_end, step_goes, step_jumps}
use Rattle.lb_emit_laws.proofs.Outcomes.{FlatComes}
use Rattle.lb_emit_laws.proofs.Ordered.{is_in, Budget, Called}
use Rattle.lb_emit_laws.proofs.Pieces.{near_from, jump_leads}
use Rattle.lb_emit_laws.proofs.Relation.{blocks_from, Matches, Left, Reach, Left-then, Matches-fuel}
use Rattle.lb_emit_laws.proofs.Passing.{Passed}

-- what the code comes to
abbrev pub CodeComes : {V : Type 0} → List ℕ → (V × World → RunState → Type 0) → ℕ → RunState → ℕ → Outcome V → Type 0
CodeComes code = FlatComes (advance code) trace_of (IsWaiting code) (length code)

-- ---- calls

-- what a call asks for, where the stack pointer is sp
pub record Calling (sp : ℕ) (w : World) (registers : Registers) (ram : Bytes) : Type 0 where
  pub none : registers 0 ≡ 0
  pub base : registers 2 ≡ sp
  pub stack : w.stack ≡ sp
  pub holds : Holds sp w.memory ram
  pub replies : AreWords w.replies

-- back at instruction number j, with so many results: placed code's registers hold what they held, as far as these were words, and
-- nothing above the stack pointer changed but what is owned
pub record Returned (sp j many : ℕ) (memory : Memory) (registers : Registers) (ram : Bytes) (s : List ℕ × World) (c : RunState) : Type 0 where
  pub after : Registers
  pub left : Bytes
  pub is : c ≡ at j after left s.1.replies s.1.trace
  pub passed : Passed 10 s.0 after
  pub count : length s.0 ≡ many
  pub none : after 0 ≡ 0
  pub base : after 2 ≡ sp
  pub stack : s.1.stack ≡ sp
  pub placed : (r : ℕ) → 18 ≤ r → registers r < 2 ^ 32 → after r ≡ registers r
  pub fewer : (x : ℕ) → is_owned (s.1.memory x) ≡ true → is_owned (memory x) ≡ true
  pub bytes : (x : ℕ) → sp ≤ x → is_owned (memory x) ≡ false → left x ≡ ram x
  pub holds : Holds sp s.1.memory left
  pub replies : AreWords s.1.replies

module _ (code : List ℕ) (fs : List (Routine Place)) (entry : ℕ → ℕ) where
  -- what is asked of the meaning of calls, in runs with so much fuel at most
  abbrev pub CallOk : Caller → ℕ → Type 0
  CallOk call bound =
      (sp room : ℕ) → 0x30000 + room ≤ sp → sp ≤ 0x40000 → (g i many : ℕ) (vs : List ℕ) (w : World) (registers : Registers) (ram : Bytes)
      → Called fs (Budget fs room) g (length vs) many → length vs ≤ 8 → many ≤ 8 → Passed 10 vs registers → Calling sp w registers ram → IsAt code i (jump 1 i (entry g)) → w.fuel ≤ bound
      → CodeComes code (Returned sp (i + 1) many w.memory registers ram) 1 (at i registers ram w.replies w.trace) w.fuel (call g vs w)

module _ {sp : ℕ} {f : Frame} where
  -- the caller's cells are as they were
  pub Matches-returned : {j many : ℕ} {rs : List ℕ} {cells : Cells} {w u : World} {registers : Registers} {ram : Bytes} {c : RunState} → Matches sp f cells w registers ram
      → (a : Returned sp j many w.memory registers ram (rs, u) c) → Matches sp f cells u a.after a.left
  Matches-returned {w = w} {registers = registers} {ram = ram} m a = record {
    none = a.none;
    base = a.base;
    stack = a.stack;
    held = λ r v is. (let h = m.held r v is in record { from = h.from; is = a.placed r h.from (omega (arith, h.is, h.word)) ∙ h.is; word = h.word });
    slots = λ k v is. (let h = m.slots k v is in record {
      within = h.within;
      is = read_same 4 (sp + slot_offset f k) a.left ram (λ x l t. a.bytes x (omega (arith, l)) (unowned_below (blocks_from sp f) w.memory ram x m.holds (omega (arith, t, h.within)))) ∙ h.is;
      word = h.word;
    });
    holds = record { bytes = a.holds.bytes; place = λ x o. m.holds.place x (a.fewer x o) };
    replies = a.replies;
  }

  -- and the rest too, where the address to return to is saved
  pub Left-returned : {j many : ℕ} {rs : List ℕ} {cells : Cells} {w u : World} {registers : Registers} {ram : Bytes} {c : RunState} → is_in 1 f.saved ≡ true → Matches sp f cells w registers ram
      → (a : Returned sp j many w.memory registers ram (rs, u) c) → Left sp f w.memory registers ram u.memory a.after a.left
  Left-returned {w = w} {registers = registers} {ram = ram} has m a = record {
    fewer = a.fewer;
    link = λ k. cc (has, k);
    others = λ r h k word. a.placed r h word;
    saved = λ x l h. a.bytes x l (unowned_below (blocks_from sp f) w.memory ram x m.holds (omega (arith, h)));
    above = λ x l o. a.bytes x (omega (arith, l)) o;
  }

-- ---- what is reached

pub Reach-to : {sp : ℕ} {f : Frame} {i : ℕ} {memory : Memory} {registers : Registers} {ram : Bytes} {s : Cells × World} {c : RunState} (j : ℕ) → i ≡ j
    → Reach sp f i memory registers ram s c → Reach sp f j memory registers ram s c
Reach-to {sp} {f} {i} {memory} {registers} {ram} {s} {c} j e a = subst (λ k. Reach sp f k memory registers ram s c) e a

pub Reach-fuel : {sp : ℕ} {f : Frame} {i : ℕ} {memory : Memory} {registers : Registers} {ram : Bytes} {cells : Cells} {w : World} {c : RunState} (fuel : ℕ)
    → Reach sp f i memory registers ram (cells, w) c → Reach sp f i memory registers ram (cells, record w { fuel = fuel }) c
Reach-fuel fuel a = record { after = a.after; left = a.left; is = a.is; matches = Matches-fuel fuel a.matches; leaves = a.leaves }

-- where a state was reached, the rest goes on from it
pub onward : (code : List ℕ) {sp : ℕ} {f : Frame} {i j len : ℕ} {memory : Memory} {registers : Registers} {ram : Bytes} {cells : Cells} {w : World} {c : RunState} (o : Outcome Cells)
    → Reach sp f i memory registers ram (cells, w) c
    → ((after : Registers) (left : Bytes) → Matches sp f cells w after left → CodeComes code (Reach sp f j w.memory after left) len (at i after left w.replies w.trace) w.fuel o)
    → CodeComes code (Reach sp f j memory registers ram) len c w.fuel o
onward code {sp} {f} {i} {j} {len} {memory} {registers} {ram} {cells} {w} {c} o a go =
    subst (λ d. CodeComes code (Reach sp f j memory registers ram) len d w.fuel o) (sym a.is)
    (fits (omega arith) (λ s d b. record { after = b.after; left = b.left; is = b.is; matches = b.matches; leaves = Left-then a.leaves b.leaves }) (go a.after a.left a.matches))

-- ---- tests

module _ (code : List ℕ) (small : length code ≤ 32768) where
  -- a branch over a jump: to number j where the register is 0, else over the jump
  pub tests_at : (i j r v : ℕ) (registers : Registers) (ram : Bytes) (replies : List ℕ) (trace : List Event) (Zero Other : RunState → Type 0)
      → registers 0 ≡ 0 → registers r ≡ v → j ≤ 32768 → IsAt code i (skip_unless_zero r) → IsAt code (i + 1) (jump 0 (i + 1) j)
      → Zero (at j registers ram replies trace) → Other (at (i + 2) registers ram replies trace)
      → Tests (advance code) trace_of Zero Other 0 (at i registers ram replies trace) v trace
  tests_at i j r v registers ram replies trace Zero Other none is near here there at_end at_body = record {
    steps = 0;
    few = omega arith;
    ready = at i registers ram replies trace;
    goes = Moves-none (advance code) (at i registers ram replies trace);
    shows = refl;
    at_zero = λ z. (
        let e : eq_of (registers r) (registers 0) ≡ 1 = ap (λ (b : Bool). if b then 1 else 0) (eq-eqb (registers r) (registers 0) (is ∙ z ∙ sym none)) in
        let first = step_goes code small i (i + 1) registers ram replies trace (skip_unless_zero r) (next_address (4 * i)) here refl
        (ap (λ k. effects.Goes (if k == 0 then plus_immediate (4 * i) (immediate 8) else next_address (4 * i))) e) (next_address-at code small i (skip_unless_zero r) here) in
        let low = below_end code small (i + 1) (jump 0 (i + 1) j) there in
        let second = step_jumps code small (i + 1) j registers ram replies trace (jump 0 (i + 1) j) _ there refl refl (jump_leads (i + 1) j (omega (arith, low)) near) in
        record { steps = 2; few = omega arith; there = at j registers ram replies trace; goes = Moves-then (Moves-one first) (Moves-one second); stands = at_end });
    at_other = λ z. (
        let e : eq_of (registers r) (registers 0) ≡ 0 = ap (λ (b : Bool). if b then 1 else 0) (ne_eqb (registers r) (registers 0) (λ w. z (sym is ∙ w ∙ none))) in
        let low = below_end code small i (skip_unless_zero r) here in
        let far : plus_immediate (4 * i) (immediate 8) ≡ 4 * (i + 2) = near_from 8 (4 * i) (omega (arith, low)) ∙ omega arith in
        record {
          next = at (i + 2) registers ram replies trace;
          moves = step_goes code small i (i + 2) registers ram replies trace (skip_unless_zero r) (plus_immediate (4 * i) (immediate 8)) here refl
              (ap (λ k. effects.Goes (if k == 0 then plus_immediate (4 * i) (immediate 8) else next_address (4 * i))) e) far;
          stands = at_body;
        });
  }

  -- a jump that sets nothing
  pub jumps_to : {sp : ℕ} {f : Frame} (i j k : ℕ) (memory : Memory) (registers : Registers) (ram : Bytes) (s : Cells × World) (c : RunState) → IsAt code i (jump 0 i j) → j ≤ 32768 → j ≡ k
      → Reach sp f i memory registers ram s c → LeadsTo (advance code) (Reach sp f k memory registers ram s) c
  jumps_to i j k memory registers ram s c here near same a =
      let lt = below_end code small i (jump 0 i j) here in
      let step = step_jumps code small i j a.after a.left s.1.replies s.1.trace (jump 0 i j) _ here refl refl (jump_leads i j (omega (arith, lt)) near) in
      record {
        next = at j a.after a.left s.1.replies s.1.trace;
        moves = ap (advance code) a.is ∙ step;
        stands = record { after = a.after; left = a.left; is = ap (λ n. at n a.after a.left s.1.replies s.1.trace) same; matches = a.matches; leaves = a.leaves };
      }

  over_by_comes : {sp : ℕ} {f : Frame} {c : RunState} {fuel : ℕ} (none : Bool) (n i k len : ℕ) (memory : Memory) (registers : Registers) (ram : Bytes) (o : Outcome Cells) → none ≡ (n == 0) → HasAt code i (over_by none i n)
      → k ≤ 32768 → i + over_words_by none + n ≡ k
      → CodeComes code (Reach sp f i memory registers ram) len c fuel o → CodeComes code (Reach sp f k memory registers ram) (len + over_words_by none) c fuel o
  over_by_comes true n i k len memory registers ram o is here near e a =
      let empty = eqb-true n 0 (sym is) in
      fits (omega arith) (λ s d z. Reach-to k (omega (arith, e, empty)) z) a
  over_by_comes false n i k len memory registers ram o is here near e a =
      move_behind {la = len} (omega arith) a (λ s d z. jumps_to i (i + 1 + n) k memory registers ram s d here.0 (omega (arith, near, e)) e z)

  -- what goes over a block of n instructions, to number k behind it
  pub over_comes : {sp : ℕ} {f : Frame} {c : RunState} {fuel : ℕ} (n i k len : ℕ) (memory : Memory) (registers : Registers) (ram : Bytes) (o : Outcome Cells) → HasAt code i (over_code i n)
      → k ≤ 32768 → i + over_words n + n ≡ k
      → CodeComes code (Reach sp f i memory registers ram) len c fuel o → CodeComes code (Reach sp f k memory registers ram) (len + over_words n) c fuel o
  over_comes n i k len memory registers ram o here near e a = over_by_comes (n == 0) n i k len memory registers ram o refl here near e a

-- ---- devices

fault_none : (b d : Bool) → (if b then (if d then None else Some OutOfRange) else Some Unaligned) ≡ None → (b && d) ≡ true
fault_none true true h = refl
fault_none true false h = cc
fault_none false d h = cc

-- an address without a fault is that of a word of a device
pub device_fine : (a : ℕ) → address_fault a ≡ None → is_device_word 4 a ≡ true
device_fine a h = ap (λ (b : Bool). true && b) (fault_none (a % 4 == 0) (is_device a) h)
