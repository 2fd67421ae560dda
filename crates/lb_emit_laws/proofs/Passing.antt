-- Values that pass between places and the registers 10 to 17.
use Rattle.std.proofs.Common.{◌≡◌, ◌≢◌, ℕ, suc, ◌+◌, ◌*◌, ◌^◌, ◌<◌, ◌≤◌, ◌⊎◌, inl, inr, List, [], ◌∷◌, length, Some, Result, Ok, Err, refl, sym, ap, ◌∙◌, subst, arith}
use Rattle.lb_trace.specs.declared.Event.{Event}
use Rattle.lb_steps.proofs.MoveLemmas.{Moves, Moves-none, Moves-then}
use Rattle.lb_source.specs.Value.{or_unset, before}
use Rattle.lb_source.specs.declared.ends.Reason.{Reason}
use Rattle.lb_outcome.specs.Ram.{with_bytes}
use Rattle.lb_flat.specs.declared.places.Place.{Place}
use Rattle.lb_flat.specs.declared.places.Place.TheVariants.{Register, Slot}
use Rattle.lb_flat.specs.Cells.{Cells, put, set_all}
use Rattle.lb_flat.specs.Run.{World, values}
use Rattle.lb_flat.specs.Whole.{itself}
use Rattle.lb_emit_laws.specs.Instructions.{reach_words}
use Rattle.lb_emit_laws.specs.Frames.{Frame, slot_offset}
use Rattle.lb_emit_laws.specs.Code.{get_place, put_place, gets_code, puts_code, place_words, places_words, value_register, fetch_code, fetch_words}
use Rattle.lb_emit_laws.proofs.Bytes.{Bytes, Registers, IsWritable}
use Rattle.lb_emit_laws.proofs.CodeLengths.{get_place_length, put_place_length}
use Rattle.lb_emit_laws.proofs.Ordered.{IsSource, AreSources, IsPlaceTarget, ArePlaceTargets}
use Rattle.lb_emit_laws.proofs.Places.{HasAt, HasAt-front, HasAt-behind}
use Rattle.lb_emit_laws.proofs.Steps.{advance, at}
use Rattle.lb_emit_laws.proofs.Pieces.{Gives, copy_gives, get_gives, put_puts}
use Rattle.lb_emit_laws.proofs.Relation.{Changed, Quiet, Quiet-changed, found, Matches, Left, Left-same, Left-then, Left-set, Left-slot, Matches-quiet, Matches-set, Matches-slot}

-- these words stand in the registers from number i on
abbrev pub Passed : ℕ → List ℕ → Registers → Type 0
Passed i [] registers = Unit {0}
Passed i (v ∷ vs) registers = ((registers i ≡ v) × (v < 2 ^ 32)) × Passed (i + 1) vs registers

pub Passed-kept : (i : ℕ) (vs : List ℕ) (registers after : Registers) → 10 ≤ i → i + length vs ≤ 18 → ((r : ℕ) → 10 ≤ r → r < 18 → after r ≡ registers r)
    → Passed i vs registers → Passed i vs after
Passed-kept i [] registers after lo hi same h = tt
Passed-kept i (v ∷ vs) registers after lo hi same h =
    ((same i lo (omega (arith, hi)) ∙ h.0.0, h.0.1), Passed-kept (i + 1) vs registers after (omega (arith, lo)) (omega (arith, hi)) same h.1)

-- ---- values that are read

record Parts (a : Result ℕ Reason) (b : Result (List ℕ) Reason) (vs : List ℕ) : Type 0 where
  first : ℕ
  rest : List ℕ
  first_is : a ≡ Ok first
  rest_is : b ≡ Ok rest
  whole : first ∷ rest ≡ vs

parts_of : (a : Result ℕ Reason) (b : Result (List ℕ) Reason) (vs : List ℕ) → before a b ≡ Ok vs → Parts a b vs
parts_of (Err reason) b vs h = cc
parts_of (Ok v) (Err reason) vs h = cc
parts_of (Ok v) (Ok ws) vs h = record { first = v; rest = ws; first_is = refl; rest_is = refl; whole = cc }

pub values_length : (cells : Cells) (ps : List Place) (vs : List ℕ) → values (itself 0) ps cells ≡ Ok vs → length vs ≡ length ps
values_length cells [] vs h = let e : [] ≡ vs = cc in sym (ap (λ (l : List ℕ). length l) e)
values_length cells (p ∷ ps) vs h =
    let parts = parts_of (or_unset (cells p)) (values (itself 0) ps cells) vs h in
    let rest = values_length cells ps parts.rest parts.rest_is in
    sym (ap (λ (l : List ℕ). length l) parts.whole) ∙ omega (arith, rest)

pub quiet_but_five : (registers after : Registers) → ((r : ℕ) → r ≢ 5 → after r ≡ registers r) → Quiet registers after
quiet_but_five registers after c =
    let f0 : ◌≢◌ {A = ℕ} 0 5 = omega arith in let f1 : ◌≢◌ {A = ℕ} 1 5 = omega arith in let f2 : ◌≢◌ {A = ℕ} 2 5 = omega arith in
    record { none = c 0 f0; link = c 1 f1; stack = c 2 f2; placed = λ r h. (let k : r ≢ 5 = omega (arith, h) in c r k) }

-- the machine comes from number j to k, and the values stand in the registers from i on
pub record Passes (code : List ℕ) (j k : ℕ) (registers : Registers) (ram : Bytes) (replies : List ℕ) (trace : List Event) (i : ℕ) (vs : List ℕ) : Type 0 where
  pub after : Registers
  pub steps : ℕ
  pub count : j + steps ≡ k
  pub goes : Moves (advance code) steps (at j registers ram replies trace) (at k after ram replies trace)
  pub passed : Passed i vs after
  pub others : (r : ℕ) → r ≢ 5 → r < i ⊎ 18 ≤ r → after r ≡ registers r

-- the machine comes from number j to k, and the value of a place stands in its register, or in register i
pub record Fetches (code : List ℕ) (j k : ℕ) (registers : Registers) (ram : Bytes) (replies : List ℕ) (trace : List Event) (i : ℕ) (p : Place) (v : ℕ) : Type 0 where
  pub after : Registers
  pub steps : ℕ
  pub count : j + steps ≡ k
  pub goes : Moves (advance code) steps (at j registers ram replies trace) (at k after ram replies trace)
  pub is : after (value_register i p) ≡ v
  pub word : v < 2 ^ 32
  pub others : Changed i registers after

pub outside : (r i : ℕ) → 10 ≤ i → i < 18 → r < 10 ⊎ 18 ≤ r → r ≢ i
outside r i lo hi (inl h) = omega arith
outside r i lo hi (inr h) = omega (arith, hi)

-- from number j to k, where nothing but cells changes
pub record Straight (code : List ℕ) (sp : ℕ) (f : Frame) (j k : ℕ) (w : World) (registers : Registers) (ram : Bytes) (cells : Cells) : Type 0 where
  pub steps : ℕ
  pub count : j + steps ≡ k
  pub after : Registers
  pub left : Bytes
  pub goes : Moves (advance code) steps (at j registers ram w.replies w.trace) (at k after left w.replies w.trace)
  pub matches : Matches sp f cells w after left
  pub leaves : Left sp f w.memory registers ram w.memory after left
  pub passing : (r : ℕ) → 10 ≤ r → r < 18 → after r ≡ registers r

module _ (code : List ℕ) (small : length code ≤ 32768) (sp : ℕ) (f : Frame) (low : 0x20000 ≤ sp) (fits : 4 * (length f.saved + f.slots) ≤ f.size) (high : sp + f.size ≤ 0x40000) where
  slot_inside : (k : ℕ) → k < f.slots → sp + slot_offset f k + 4 ≤ 0x40000
  slot_inside k lt = omega (arith, fits, high, lt)

  place_gives : (p : Place) (rd j v : ℕ) (cells : Cells) (w : World) (registers : Registers) (ram : Bytes) (replies : List ℕ) (trace : List Event) → IsWritable rd → IsSource f p → or_unset (cells p) ≡ Ok v
      → Matches sp f cells w registers ram → HasAt code j (get_place f rd p) → Gives code j (j + place_words f p) registers ram replies trace rd v × (v < 2 ^ 32)
  place_gives (Register r) rd j v cells w registers ram replies trace some source is m here =
      let h = m.held r v (found (cells (Register r)) v is) in
      (copy_gives code small j registers ram replies trace rd r v some h.is h.word here, h.word)
  place_gives (Slot k) rd j v cells w registers ram replies trace some source is m here =
      let h = m.slots k v (found (cells (Slot k)) v is) in
      let g = get_gives code small j registers ram replies trace rd (slot_offset f k) sp some m.base (slot_inside k source) here in
      (subst (λ x. Gives code j (j + reach_words (slot_offset f k)) registers ram replies trace rd x) h.is g, h.word)

  pub gets_pass : (ps : List Place) (i j : ℕ) (vs : List ℕ) (cells : Cells) (w : World) (registers : Registers) (ram : Bytes) (replies : List ℕ) (trace : List Event) → AreSources f ps → values (itself 0) ps cells ≡ Ok vs
      → 10 ≤ i → i + length ps ≤ 18 → Matches sp f cells w registers ram → HasAt code j (gets_code f i ps) → Passes code j (j + places_words f ps) registers ram replies trace i vs
  gets_pass [] i j vs cells w registers ram replies trace sources is lo hi m here =
      let e : [] ≡ vs = cc in
      subst (λ ws. Passes code j (j + 0) registers ram replies trace i ws) e (record {
        after = registers;
        steps = 0;
        count = refl;
        goes = let z : j ≡ j + 0 = omega arith in subst (λ k. Moves (advance code) 0 (at j registers ram replies trace) (at k registers ram replies trace)) z (Moves-none (advance code) _);
        passed = tt;
        others = λ r n h. refl;
      })
  gets_pass (p ∷ ps) i j vs cells w registers ram replies trace sources is lo hi m here =
      let parts = parts_of (or_unset (cells p)) (values (itself 0) ps cells) vs is in
      let front = get_place f i p in
      let k = j + place_words f p in
      let g = place_gives p i j parts.first cells w registers ram replies trace (omega (arith, lo), omega (arith, hi)) sources.0 parts.first_is m (HasAt-front code j front (gets_code f (i + 1) ps) here) in
      let q = Quiet-changed i registers g.0.after (omega (arith, lo)) (omega (arith, hi)) g.0.others in
      let rest = gets_pass ps (i + 1) k parts.rest cells w g.0.after ram replies trace sources.1 parts.rest_is (omega (arith, lo)) (omega (arith, hi)) (Matches-quiet q m)
      (HasAt-behind code j k (place_words f p) front (gets_code f (i + 1) ps) here (get_place_length f i p) refl) in
      let n5 : i ≢ 5 = omega (arith, lo) in
      subst (λ ws. Passes code j (j + places_words f (p ∷ ps)) registers ram replies trace i ws) parts.whole (record {
        after = rest.after;
        steps = g.0.steps + rest.steps;
        count = omega (arith, g.0.count, rest.count);
        goes = let z : k + places_words f ps ≡ j + places_words f (p ∷ ps) = omega arith in
            subst (λ n. Moves (advance code) (g.0.steps + rest.steps) (at j registers ram replies trace) (at n rest.after ram replies trace)) z (Moves-then g.0.goes rest.goes);
        passed = ((rest.others i n5 (inl (omega arith)) ∙ g.0.value, g.1), rest.passed);
        others = λ r n h. rest.others r n (further r i h) ∙ g.0.others r (apart_from r i lo hi h) n;
      })
    where
      further : (r i : ℕ) → r < i ⊎ 18 ≤ r → r < i + 1 ⊎ 18 ≤ r
      further r i (inl h) = inl (omega arith)
      further r i (inr h) = inr h

      apart_from : (r i : ℕ) → 10 ≤ i → i + suc (length ps) ≤ 18 → r < i ⊎ 18 ≤ r → r ≢ i
      apart_from r i lo hi (inl h) = omega arith
      apart_from r i lo hi (inr h) = omega (arith, hi)

  pub fetch_finds : (p : Place) (i j v : ℕ) (cells : Cells) (w : World) (registers : Registers) (ram : Bytes) (replies : List ℕ) (trace : List Event) → IsWritable i → IsSource f p → or_unset (cells p) ≡ Ok v
      → Matches sp f cells w registers ram → HasAt code j (fetch_code f i p) → Fetches code j (j + fetch_words f p) registers ram replies trace i p v
  fetch_finds (Register r) i j v cells w registers ram replies trace some source is m here =
      let h = m.held r v (found (cells (Register r)) v is) in
      record {
        after = registers;
        steps = 0;
        count = refl;
        goes = let z : j ≡ j + 0 = omega arith in subst (λ k. Moves (advance code) 0 (at j registers ram replies trace) (at k registers ram replies trace)) z (Moves-none (advance code) _);
        is = h.is;
        word = h.word;
        others = λ x n n5. refl;
      }
  fetch_finds (Slot k) i j v cells w registers ram replies trace some source is m here =
      let g = place_gives (Slot k) i j v cells w registers ram replies trace some source is m here in
      record { after = g.0.after; steps = g.0.steps; count = g.0.count; goes = g.0.goes; is = g.0.value; word = g.1; others = g.0.others }

  -- a slot is set from a register that isn't the code's own
  pub slot_puts : (k rs j v : ℕ) (cells : Cells) (w : World) (registers : Registers) (ram : Bytes) → rs ≢ 5 → registers rs ≡ v → v < 2 ^ 32 → k < f.slots
      → Matches sp f cells w registers ram → HasAt code j (put_place f (Slot k) rs)
      → Straight code sp f j (j + place_words f (Slot k)) w registers ram (put (Slot k) (Some v) cells)
  slot_puts k rs j v cells w registers ram apart is word t m here =
      let g = put_puts code small j registers ram w.replies w.trace rs v (slot_offset f k) sp apart is m.base (slot_inside k t) (omega (arith, small, low)) here in
      let q = quiet_but_five registers g.after g.others in
      record {
        steps = g.steps;
        count = g.count;
        after = g.after;
        left = with_bytes 4 (sp + slot_offset f k) v ram;
        goes = g.goes;
        matches = Matches-slot k v t word q m;
        leaves = Left-slot k v w.memory registers g.after ram fits t q;
        passing = λ x l u. (let n5 : x ≢ 5 = omega (arith, l) in g.others x n5);
      }

  -- one place is set from a register
  place_puts : (p : Place) (rs j v : ℕ) (cells : Cells) (w : World) (registers : Registers) (ram : Bytes) → 10 ≤ rs → registers rs ≡ v → v < 2 ^ 32 → IsPlaceTarget f p
      → Matches sp f cells w registers ram → HasAt code j (put_place f p rs)
      → Straight code sp f j (j + place_words f p) w registers ram (put p (Some v) cells)
  place_puts (Register r) rs j v cells w registers ram lo is word t m here =
      let g = copy_gives code small j registers ram w.replies w.trace r rs v (omega (arith, t.from), t.below) is word here in
      record {
        steps = g.steps;
        count = g.count;
        after = g.after;
        left = ram;
        goes = g.goes;
        matches = Matches-set r v t word g.value g.others m;
        leaves = Left-set w.memory registers g.after ram r t g.others;
        passing = λ x l u. (let n : x ≢ r = omega (arith, u, t.from) in let n5 : x ≢ 5 = omega (arith, l) in g.others x n n5);
      }
  place_puts (Slot k) rs j v cells w registers ram lo is word t m here = slot_puts k rs j v cells w registers ram (omega (arith, lo)) is word t m here

  -- one, and then others
  Straight-then : {j k n : ℕ} {w : World} {registers : Registers} {ram : Bytes} {now last : Cells} (a : Straight code sp f j k w registers ram now) → Straight code sp f k n w a.after a.left last
      → Straight code sp f j n w registers ram last
  Straight-then a b = record {
    steps = a.steps + b.steps;
    count = omega (arith, a.count, b.count);
    after = b.after;
    left = b.left;
    goes = Moves-then a.goes b.goes;
    matches = b.matches;
    leaves = Left-then a.leaves b.leaves;
    passing = λ r l h. b.passing r l h ∙ a.passing r l h;
  }

  pub puts_set : (ps : List Place) (i j : ℕ) (vs : List ℕ) (cells : Cells) (w : World) (registers : Registers) (ram : Bytes) → ArePlaceTargets f ps → length vs ≡ length ps → Passed i vs registers
      → 10 ≤ i → i + length ps ≤ 18 → Matches sp f cells w registers ram → HasAt code j (puts_code f ps i) → Straight code sp f j (j + places_words f ps) w registers ram (set_all (itself 0) ps vs cells)
  puts_set [] i j vs cells w registers ram targets long passed lo hi m here = record {
    steps = 0;
    count = refl;
    after = registers;
    left = ram;
    goes = let z : j ≡ j + 0 = omega arith in subst (λ k. Moves (advance code) 0 (at j registers ram w.replies w.trace) (at k registers ram w.replies w.trace)) z (Moves-none (advance code) _);
    matches = m;
    leaves = Left-same w.memory registers ram;
    passing = λ r l u. refl;
  }
  puts_set (p ∷ ps) i j [] cells w registers ram targets long passed lo hi m here = absurd (omega (arith, long))
  puts_set (p ∷ ps) i j (v ∷ vs) cells w registers ram targets long passed lo hi m here =
      let front = put_place f p i in
      let k = j + place_words f p in
      let first = place_puts p i j v cells w registers ram lo passed.0.0 passed.0.1 targets.0 m (HasAt-front code j front (puts_code f ps (i + 1)) here) in
      let kept = Passed-kept (i + 1) vs registers first.after (omega (arith, lo)) (omega (arith, long, hi)) first.passing passed.1 in
      let z : k + places_words f ps ≡ j + places_words f (p ∷ ps) = omega arith in
      subst (λ n. Straight code sp f j n w registers ram (set_all (itself 0) ps vs (put p (Some v) cells))) z
      (Straight-then first (puts_set ps (i + 1) k vs (put p (Some v) cells) w first.after first.left targets.1 (omega (arith, long)) kept (omega (arith, lo)) (omega (arith, hi)) first.matches
      (HasAt-behind code j k (place_words f p) front (puts_code f ps (i + 1)) here (put_place_length f p i) refl)))
