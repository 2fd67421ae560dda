-- A call: the jump, the stack pointer down, registers saved and parameters set; the body; results passed, registers loaded, the stack
-- pointer up, and back.
use Rattle.std.proofs.Common.{◌≡◌, ◌≢◌, ℕ, zero, suc, ◌+◌, ◌-◌, ◌*◌, ◌/◌, ◌^◌, ◌<◌, ◌≤◌, inl, inr, Bool, true, false, List, [], ◌∷◌, ◌++◌, length, map, Option, Some, refl, sym, ap, ◌∙◌, subst, arith}
use Rattle.std.specs.Prelude.{slice_get, Contains}
use Rattle.std.proofs.lemmas.Option.{slice_get_within}
use Rattle.std.proofs.lemmas.List.Sums.{sum_by-cons}
use Rattle.lb_steps.proofs.MoveLemmas.{Moves, Moves-one, Moves-then}
use Rattle.lb_steps.proofs.Simulation.{arrived, spent, leading}
use Rattle.lb_rv.specs.declared.instr.Instr.{Instr}
use Rattle.lb_rv.specs.declared.instr.Instr.TheVariants as instr
use Rattle.lb_rv.specs.Effects.{plus_immediate}
use Rattle.lb_outcome.specs.Registers.{with_register}
use Rattle.lb_flat.specs.declared.places.Place.{Place}
use Rattle.lb_flat.specs.Cells.{Cells, no_cells, set_all}
use Rattle.lb_flat.specs.Code.{Routine}
use Rattle.lb_flat.specs.Calls.{callees, callees_of, path_need}
use Rattle.lb_flat.specs.Calls as flat
use Rattle.lb_flat.specs.Needs.{frame_need}
use Rattle.lb_flat.specs.Run.{World, Outcome, Goes, Callable, calls, enter, run_with, then_do, values, with_value}
use Rattle.lb_flat.specs.Whole.{callable, itself}
use Rattle.lb_emit_laws.specs.Instructions.{immediate, jump, reach_words, down_code, up_code, saves_code, loads_code}
use Rattle.lb_emit_laws.specs.Frames.{Frame, frame_of, offsets_of, frame_layout}
use Rattle.lb_emit_laws.specs.Code.{places_words, gets_code, puts_code, code_words, command_code, body_place, routine_code, routine_words}
use Rattle.lb_emit_laws.proofs.Bytes.{Bytes, Registers, IsWritable, set_same, set_other}
use Rattle.lb_emit_laws.proofs.Owned.{is_owned}
use Rattle.lb_emit_laws.proofs.Places.{HasAt, HasAt-front, HasAt-behind}
use Rattle.lb_emit_laws.proofs.Steps.{advance, at, below_end, step_jumps, step_links}
use Rattle.lb_emit_laws.proofs.Outcomes.{seq_comes, spend_comes, value_comes}
use Rattle.lb_emit_laws.proofs.Ordered.{is_in, AreSaved, AreSources, Budget, FitsFrame}
use Rattle.lb_emit_laws.proofs.CodeLengths.{gets_length, puts_length, saves_length, loads_length, command_length, down_length, up_length}
use Rattle.lb_emit_laws.proofs.CalledLemmas.{InOrder-calls}
use Rattle.lb_emit_laws.proofs.Pieces.{down_gives, up_gives, plus_zero, jump_leads}
use Rattle.lb_emit_laws.proofs.Relation.{Matches, Left, Left-then}
use Rattle.lb_emit_laws.proofs.Passing.{Passed, Passed-kept, gets_pass, puts_set, values_length}
use Rattle.lb_emit_laws.proofs.SavedRegisters.{SavedAt, SavedAt-same, saves_save, loads_load, not_saved, not_in}
use Rattle.lb_emit_laws.proofs.CodeRuns.{CallOk, Calling, CodeComes, Returned}
use Rattle.lb_emit_laws.proofs.CommandRuns.{command_comes}

-- either way
choose : {P : Type 0} (b : Bool) → (b ≡ true → P) → (b ≡ false → P) → P
choose true one other = one refl
choose false one other = other refl

halves : (j : ℕ) → 4 * j / 2 * 2 ≡ 4 * j
halves j = omega arith

-- what holds at the start of a body whose frame begins `below` the caller's stack pointer sp: it returns to instruction number j
record Begun (sp below : ℕ) (fr : Frame) (j : ℕ) (registers : Registers) (ram : Bytes) (now : Registers) (left : Bytes) : Type 0 where
  link : now 1 ≡ 4 * j
  placed : (r : ℕ) → 18 ≤ r → now r ≡ registers r
  above : (x : ℕ) → sp ≤ x → left x ≡ ram x
  saved : SavedAt (below + 4 * 0) fr.saved now left

module _ (code : List ℕ) (small : length code ≤ 32768) where
  -- the stack pointer up, and back to instruction number j
  goes_back : (i size sp j : ℕ) (registers : Registers) (ram : Bytes) (w : World) → registers 2 ≡ sp → sp + size < 2 ^ 32 → registers 1 ≡ 4 * j → j ≤ 32768
      → HasAt code i (up_code size ++ instr.Jalr 0 1 (immediate 0) ∷ [])
      → (after : Registers) × (Moves (advance code) (reach_words size + 1) (at i registers ram w.replies w.trace) (at j after ram w.replies w.trace) × (after 2 ≡ sp + size) × ((r : ℕ) → r ≢ 2 → r ≢ 5 → after r ≡ registers r))
  goes_back i size sp j registers ram w base word link near here =
      let one2 : ◌≢◌ {A = ℕ} 1 2 = omega arith in let one5 : ◌≢◌ {A = ℕ} 1 5 = omega arith in
      let last : List Instr = instr.Jalr 0 1 (immediate 0) ∷ [] in
      let g = up_gives code small i size sp registers ram w.replies w.trace base word (HasAt-front code i (up_code size) last here) in
      let behind = HasAt-behind code i (i + reach_words size) (reach_words size) (up_code size) last here (up_length size) refl in
      let link2 : g.after 1 ≡ 4 * j = g.others 1 one2 one5 ∙ link in
      let step = step_jumps code small (i + reach_words size) j g.after ram w.replies w.trace (instr.Jalr 0 1 (immediate 0)) (plus_immediate (g.after 1) (immediate 0) / 2 * 2) behind.0 refl refl
      (ap (λ k. k / 2 * 2) (plus_zero (g.after 1) (4 * j) link2 (omega (arith, near))) ∙ halves j) in
      let many : g.steps + 1 ≡ reach_words size + 1 = omega (arith, g.count) in (
        g.after,
        (subst (λ n. Moves (advance code) n (at i registers ram w.replies w.trace) (at j g.after ram w.replies w.trace)) many (Moves-then g.goes (Moves-one step)), g.value, g.others),
      )

  module _ (sp below : ℕ) (fr : Frame) (under : below + fr.size ≡ sp) (low2 : 0x20000 ≤ below) (top : sp ≤ 0x40000) (fit : 4 * (length fr.saved + fr.slots) ≤ fr.size) (kept : AreSaved fr.saved) where
    return_comes : (j k many : ℕ) (cells : Cells) (w u : World) (registers now after : Registers) (ram begun_ram left : Bytes) (results : List Place) → Calling sp w registers ram
        → Begun sp below fr j registers ram now begun_ram → Matches below fr cells u after left → Left below fr w.memory now begun_ram u.memory after left
        → HasAt code k (gets_code fr 10 results ++ (loads_code 0 fr.saved ++ (up_code fr.size ++ instr.Jalr 0 1 (immediate 0) ∷ []))) → AreSources fr results → length results ≡ many → many ≤ 8 → j ≤ 32768
        → CodeComes code (Returned sp j many w.memory registers ram) (places_words fr results + (length fr.saved + (reach_words fr.size + 1))) (at k after left u.replies u.trace) u.fuel
        (with_value (values (itself 0) results cells) u (λ rs. Goes rs (record u { stack = w.stack })))
    return_comes j k many cells w u registers now after ram begun_ram left results m begun mu lu here sources answers few near =
        let rw_ = places_words fr results in
        let nk = length fr.saved in
        let front = gets_code fr 10 results in
        let loads = loads_code 0 fr.saved in
        let last = up_code fr.size ++ instr.Jalr 0 1 (immediate 0) ∷ [] in
        value_comes (values (itself 0) results cells) u (λ rs. Goes rs (record u { stack = w.stack })) (λ rs is.
        let long = values_length cells results rs is in
        let a = gets_pass code small below fr low2 fit (omega (arith, under, top)) results 10 k rs cells u after left u.replies u.trace sources is (omega arith) (omega (arith, answers, few)) mu (HasAt-front code k front (loads ++ last) here) in
        let mid = HasAt-behind code k (k + rw_) rw_ front (loads ++ last) here (gets_length fr 10 results) refl in
        let saved = SavedAt-same (below + 4 * 0) fr.saved now begun_ram left (λ x l h. lu.saved x (omega (arith, l)) (omega (arith, h))) begun.saved in
        let two5 : ◌≢◌ {A = ℕ} 2 5 = omega arith in let one5 : ◌≢◌ {A = ℕ} 1 5 = omega arith in
        let zero2 : ◌≢◌ {A = ℕ} 0 2 = omega arith in let zero5 : ◌≢◌ {A = ℕ} 0 5 = omega arith in
        let base : a.after 2 ≡ below = a.others 2 two5 (inl (omega arith)) ∙ mu.base in
        let b = loads_load code small below low2 fr.saved 0 (k + rw_) now a.after left u.replies u.trace base kept saved (omega (arith, fit, under, top)) (HasAt-front code (k + rw_) loads last mid) in
        let tail = HasAt-behind code (k + rw_) (k + rw_ + nk) nk loads last mid (loads_length 0 fr.saved) refl in
        let base2 : b.after 2 ≡ below = b.others 2 (not_in fr.saved 2 kept (λ x pos ap2. ap2)) ∙ base in
        let link : b.after 1 ≡ 4 * j = choose (is_in 1 fr.saved)
        (λ t. b.restored 1 t (omega (arith, begun.link, near)) ∙ begun.link)
        (λ t. b.others 1 t ∙ a.others 1 one5 (inl (omega arith)) ∙ lu.link t ∙ begun.link) in
        let e = goes_back (k + rw_ + nk) fr.size below j b.after left u base2 (omega (arith, under, top)) link near tail in
        leading {la = 0} (Moves-then a.goes (Moves-then b.goes e.1.0)) (omega (arith, a.count, b.count))
        (arrived (rs, record u { stack = w.stack }) (record {
          after = e.0;
          left = left;
          is = refl;
          passed = Passed-kept 10 rs a.after e.0 (omega arith) (omega (arith, long, answers, few)) (λ r l h. (
              let n2 : r ≢ 2 = omega (arith, l) in let n5 : r ≢ 5 = omega (arith, l) in
              e.1.2 r n2 n5 ∙ b.others r (not_saved fr.saved r kept (omega (arith, l)) h))) a.passed;
          count = long ∙ answers;
          none = e.1.2 0 zero2 zero5 ∙ b.others 0 (not_in fr.saved 0 kept (λ x pos ap2. omega (arith, pos))) ∙ a.others 0 zero5 (inl (omega arith)) ∙ mu.none;
          base = e.1.1 ∙ under;
          stack = m.stack;
          placed = λ r h word. (
              let n2 : r ≢ 2 = omega (arith, h) in let n5 : r ≢ 5 = omega (arith, h) in
              let w3 : now r < 2 ^ 32 = omega (arith, begun.placed r h, word) in
              e.1.2 r n2 n5 ∙ choose (is_in r fr.saved)
              (λ t. b.restored r t w3 ∙ begun.placed r h)
              (λ t. b.others r t ∙ a.others r n5 (inr h) ∙ lu.others r h t w3 ∙ begun.placed r h));
          fewer = lu.fewer;
          bytes = λ x h o. lu.above x (omega (arith, h, under)) o ∙ begun.above x h;
          holds = record { bytes = mu.holds.bytes; place = λ x o. m.holds.place x (lu.fewer x o) };
          replies = mu.replies;
        })))

-- ---- functions

-- a function in its frame
abbrev pub placed_callable : Routine Place → Callable Place
placed_callable g = callable g (itself 0) (frame_layout g)

-- the functions stand where calls look for them, and fit their frames
pub record Stands (code : List ℕ) (fs : List (Routine Place)) (entry : ℕ → ℕ) : Type 0 where
  pub has : (g : ℕ) (h : Routine Place) → slice_get fs g ≡ Some h → HasAt code (entry g) (routine_code (frame_of h) entry (offsets_of h) (entry g) h)
  pub fits : (g : ℕ) (h : Routine Place) → slice_get fs g ≡ Some h → FitsFrame fs h
  pub short : (g : ℕ) (h : Routine Place) → slice_get fs g ≡ Some h → entry g + routine_words (frame_of h) h ≤ length code

pub found_callable : (fs : List (Routine Place)) (g : ℕ) (h : Routine Place) → slice_get fs g ≡ Some h → slice_get (map placed_callable fs) g ≡ Some (placed_callable h)
found_callable [] g h is = cc
found_callable (k ∷ fs) zero h is = let e : k ≡ h = cc in ap (λ (x : Routine Place). Some (placed_callable x)) e
found_callable (k ∷ fs) (suc g) h is = found_callable fs g h is

-- what a function does once a call of it has begun
abbrev pub begun : List (Routine Place) → ℕ → Routine Place → List ℕ → World → World → Outcome (List ℕ)
begun fs n h vs w u =
    then_do (run_with (itself 0) (calls (map placed_callable fs) n) n (offsets_of h) h.body (set_all (itself 0) h.params vs no_cells) (record u { stack = w.stack - (frame_of h).size }))
    (λ cells t. with_value (values (itself 0) h.results cells) t (λ rs. Goes rs (record t { stack = w.stack })))

path_cons : (fs : List (Routine Place)) (g : ℕ) (path : List ℕ) → path_need fs (g ∷ path) ≡ flat.frame_of (slice_get fs g) + path_need fs path
path_cons fs g path = sum_by-cons (λ x. x) (flat.frame_of (slice_get fs g)) (map (λ k. flat.frame_of (slice_get fs k)) path)

-- a frame is no greater than its need
pub size_within : (fs : List (Routine Place)) (h : Routine Place) → FitsFrame fs h → (frame_of h).size ≤ frame_need h
size_within fs h fits = omega (arith, fits.few)

module _ (code : List ℕ) (small : length code ≤ 32768) (fs : List (Routine Place)) (entry : ℕ → ℕ) (st : Stands code fs entry) where
  module _ (n : ℕ) (ih : CallOk code fs entry (calls (map placed_callable fs) n) n) (sp room : ℕ) (low : 0x30000 + room ≤ sp) (top : sp ≤ 0x40000) where
    -- from the first instruction of a function until it is back
    pub body_comes : (g i many fuel : ℕ) (h : Routine Place) (vs : List ℕ) (w : World) (registers : Registers) (ram : Bytes) → slice_get fs g ≡ Some h → length h.params ≡ length vs → length h.results ≡ many
        → Budget fs room g → length vs ≤ 8 → many ≤ 8 → Passed 10 vs registers → Calling sp w registers ram → i + 1 ≤ 32768 → fuel ≤ n
        → CodeComes code (Returned sp (i + 1) many w.memory registers ram) (routine_words (frame_of h) h)
        (at (entry g) (with_register 1 (4 * (i + 1)) registers) ram w.replies w.trace) fuel (begun fs n h vs w (record w { fuel = fuel }))
    body_comes g i many fuel h vs w registers ram is arity answers room_for few_vs few_rs passed m near few =
        let fr = frame_of h in
        let fits_ = st.fits g h is in
        let has = st.has g h is in
        let short = st.short g h is in
        let inside : g < length fs = slice_get_within fs g h is in
        let need : flat.frame_of (slice_get fs g) ≡ frame_need h = ap flat.frame_of is in
        let size_need = size_within fs h fits_ in
        let first = path_cons fs g [] in
        let within : fr.size ≤ room = omega (arith, room_for [] inside, first, need, size_need) in
        let calls_of : (k : ℕ) → Contains (callees h.body) k → Contains (callees_of (slice_get fs g)) k =
        λ k c. subst (λ (o : Option (Routine Place)). Contains (callees_of o) k) (sym is) c in
        let budget : (k : ℕ) → Contains (callees h.body) k → Budget fs (room - fr.size) k =
        λ k c path q. (let all = room_for (k ∷ path) (inside, calls_of k c, q) in let split = path_cons fs g (k ∷ path) in omega (arith, all, split, need, size_need)) in
        let e = entry g in
        let below = sp - fr.size in
        let le : fr.size ≤ sp = omega (arith, low, within) in
        let under : below + fr.size ≡ sp = omega (arith, le) in
        let fit : 4 * (length fr.saved + fr.slots) ≤ fr.size = omega arith in
        let r1 = with_register 1 (4 * (i + 1)) registers in
        let dw = reach_words fr.size in
        let nk = length fr.saved in
        let pw = places_words fr h.params in
        let wb = code_words fr h.body in
        let rw_ = places_words fr h.results in
        let down = down_code fr.size in
        let saves = saves_code 0 fr.saved in
        let params = puts_code fr h.params 10 in
        let bp = body_place fr h e in
        let body = command_code fr entry (offsets_of h) bp h.body in
        let rest = gets_code fr 10 h.results ++ (loads_code 0 fr.saved ++ (up_code fr.size ++ instr.Jalr 0 1 (immediate 0) ∷ [])) in
        let has1 = HasAt-behind code e (e + dw) dw down (saves ++ (params ++ (body ++ rest))) has (down_length fr.size) refl in
        let has2 = HasAt-behind code (e + dw) (e + dw + nk) nk saves (params ++ (body ++ rest)) has1 (saves_length 0 fr.saved) refl in
        let has3 = HasAt-behind code (e + dw + nk) (e + dw + nk + pw) pw params (body ++ rest) has2 (puts_length fr h.params 10) refl in
        let has4 = HasAt-behind code bp (bp + wb) wb body rest has3 (command_length fr entry (offsets_of h) bp h.body) refl in
        let one : IsWritable 1 = (omega arith, omega arith) in
        let two1 : ◌≢◌ {A = ℕ} 2 1 = omega arith in
        let one2 : ◌≢◌ {A = ℕ} 1 2 = omega arith in let one5 : ◌≢◌ {A = ℕ} 1 5 = omega arith in
        let zero1 : ◌≢◌ {A = ℕ} 0 1 = omega arith in let zero2 : ◌≢◌ {A = ℕ} 0 2 = omega arith in let zero5 : ◌≢◌ {A = ℕ} 0 5 = omega arith in
        let base1 : r1 2 ≡ sp = set_other 1 (4 * (i + 1)) registers 2 two1 ∙ m.base in
        let d = down_gives code small e fr.size sp r1 ram w.replies w.trace base1 le (omega (arith, top)) (HasAt-front code e down (saves ++ (params ++ (body ++ rest))) has) in
        let r2 = d.after in
        let same = (λ (r : ℕ) (n1 : r ≢ 1) (n2 : r ≢ 2) (n5 : r ≢ 5). d.others r n2 n5 ∙ set_other 1 (4 * (i + 1)) registers r n1) in
        let low2 : 0x20000 ≤ below = omega (arith, low, within) in
        let sv = saves_save code small below low2 fr.saved 0 (e + dw) r2 ram w.replies w.trace d.value (omega (arith, under, top)) (HasAt-front code (e + dw) saves (params ++ (body ++ rest)) has1) in
        let above = (λ (x : ℕ) (l : sp ≤ x). sv.others x (inr (omega (arith, l, under)))) in
        let begins : Begun sp below fr (i + 1) registers ram r2 sv.left = record {
          link = d.others 1 one2 one5 ∙ set_same 1 (4 * (i + 1)) registers one;
          placed = λ r l. (let n1 : r ≢ 1 = omega (arith, l) in let n2 : r ≢ 2 = omega (arith, l) in let n5 : r ≢ 5 = omega (arith, l) in same r n1 n2 n5);
          above = above;
          saved = sv.saved;
        } in
        let w0 : World = record w { fuel = fuel; stack = w.stack - fr.size } in
        let stack0 : w.stack - fr.size ≡ below = omega (arith, m.stack) in
        let m0 : Matches below fr no_cells w0 r2 sv.left = record {
          none = same 0 zero1 zero2 zero5 ∙ m.none;
          base = d.value;
          stack = stack0;
          held = λ r v set_. cc;
          slots = λ k v set_. cc;
          holds = record {
            bytes = λ x b set_. (let y = m.holds.bytes x b set_ in let a = m.holds.place x (ap is_owned set_) in record { is = above x a.from ∙ y.is; small = y.small });
            place = λ x o. (let a = m.holds.place x o in record { from = omega (arith, a.from, under); inside = a.inside });
          };
          replies = m.replies;
        } in
        let passed2 = Passed-kept 10 vs registers r2 (omega arith) (omega (arith, few_vs)) (λ r l u. (let n1 : r ≢ 1 = omega (arith, l) in let n2 : r ≢ 2 = omega (arith, l) in let n5 : r ≢ 5 = omega (arith, l) in same r n1 n2 n5)) passed in
        let pt = puts_set code small below fr low2 fit (omega (arith, under, top)) h.params 10 (e + dw + nk) vs no_cells w0 r2 sv.left fits_.params (sym arity) passed2 (omega arith) (omega (arith, fits_.param_count)) m0
        (HasAt-front code (e + dw + nk) params (body ++ rest) has2) in
        let cells0 = set_all (itself 0) h.params vs no_cells in
        leading {la = wb + (rw_ + (nk + (dw + 1)))} (Moves-then d.goes (Moves-then sv.goes pt.goes)) (omega (arith, d.count, sv.count, pt.count))
        (seq_comes {lb = rw_ + (nk + (dw + 1))} (run_with (itself 0) (calls (map placed_callable fs) n) n (offsets_of h) h.body cells0 w0) (λ cells t. with_value (values (itself 0) h.results cells) t (λ rs. Goes rs (record t { stack = w.stack }))) (omega arith)
        (command_comes code small below (room - fr.size) fr (omega (arith, low, within)) fit (omega (arith, under, top)) fs entry (calls (map placed_callable fs) n) n ih h.body (offsets_of h) bp cells0 w0 pt.after pt.left
        (InOrder-calls fs (Contains (callees h.body)) (Budget fs (room - fr.size)) fr budget (offsets_of h) h.body fits_.body) (HasAt-front code bp body rest has3) (omega (arith, short)) few pt.matches)
        (λ cells u k a less. subst (λ x. CodeComes code (Returned sp (i + 1) many w.memory registers ram) (rw_ + (nk + (dw + 1))) x u.fuel (with_value (values (itself 0) h.results cells) u (λ rs. Goes rs (record u { stack = w.stack })))) (sym a.is)
        (return_comes code small sp below fr under low2 top fit fits_.saved (i + 1) (bp + wb) many cells w u registers r2 a.after ram sv.left a.left h.results m begins a.matches
        (Left-then pt.leaves a.leaves) has4 fits_.results answers few_rs near)))

  -- a call, in a run that has so much fuel at most
  pub calls_ok : (n : ℕ) → CallOk code fs entry (calls (map placed_callable fs) n) n
  calls_ok zero sp room low top g i many vs w registers ram called few_vs few_rs passed m here few = spent (omega (arith, few)) refl
  calls_ok (suc n) sp room low top g i many vs w registers ram called few_vs few_rs passed m here few =
      let h = called.callee in
      let short = st.short g h called.is in
      let low_i = below_end code small i (jump 1 i (entry g)) here in
      let step = step_links code small i (entry g) registers ram w.replies w.trace (jump 1 i (entry g)) _ here refl refl (jump_leads i (entry g) (omega (arith, low_i)) (omega (arith, short, small))) in
      subst (λ (o : Option (Callable Place)). CodeComes code (Returned sp (i + 1) many w.memory registers ram) 1 (at i registers ram w.replies w.trace) w.fuel
      (enter o (λ g. run_with g.cell (calls (map placed_callable fs) n) n g.offsets g.body) vs w)) (sym (found_callable fs g h called.is))
      (spend_comes {la = routine_words (frame_of h) h} w.fuel w (begun fs n h vs w) refl step (omega (arith, short)) (λ fuel z.
      body_comes n (calls_ok n) sp room low top g i many fuel h vs w registers ram called.is called.arity called.answers called.allowed few_vs few_rs passed m (omega (arith, low_i)) (omega (arith, few, z))))
