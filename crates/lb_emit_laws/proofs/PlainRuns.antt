-- The code of a plain command does what the command does.
use Rattle.std.proofs.Common.{◌≡◌, ◌≢◌, ℕ, ◌+◌, ◌*◌, ◌^◌, ◌≤◌, ◌<◌, inl, inr, List, [], ◌∷◌, ◌++◌, length, Some, None, Ok, refl, sym, ap, ◌∙◌, subst, arith}
use Rattle.lb_trace.specs.declared.Event.{Event}
use Rattle.lb_trace.specs.declared.Event.TheVariants.{Ld, St}
use Rattle.lb_syntax.specs.declared.tree.Width.{Width}
use Rattle.lb_syntax.specs.declared.tree.Width.TheVariants.{One, Two, Four}
use Rattle.lb_syntax.specs.declared.tree.Action.TheVariants.{Read, Write}
use Rattle.lb_steps.proofs.MoveLemmas.{Moves, Moves-one, Moves-then}
use Rattle.lb_steps.proofs.Simulation.{arrived, starving, fits, leading}
use Rattle.lb_source.specs.Correct.{AreWords}
use Rattle.lb_source.specs.Maps.{Memory}
use Rattle.lb_source.specs.Value.{operate, load, or_unset, byte_count}
use Rattle.lb_source.specs.Run.{store, address_fault}
use Rattle.lb_rv.specs.Effects.{plus_immediate}
use Rattle.lb_rv.specs.Effects as effects
use Rattle.lb_outcome.specs.Ram.{number_at, with_bytes}
use Rattle.lb_outcome.specs.Registers.{with_register}
use Rattle.lb_flat.specs.declared.places.Place.{Place}
use Rattle.lb_flat.specs.declared.places.Place.TheVariants.{Register, Slot}
use Rattle.lb_flat.specs.Cells.{Cells, put, set_all}
use Rattle.lb_flat.specs.Code.{Operation, Constant, Copy, Compute, Load, Store, Call, Access}
use Rattle.lb_flat.specs.Code.{Routine}
use Rattle.lb_flat.specs.Needs.{operation_words}
use Rattle.lb_flat.specs.Run.{World, Outcome, Goes, Caller, ask, effect, gives, then_do, values, with_value}
use Rattle.lb_flat.specs.Whole.{itself}
use Rattle.lb_emit_laws.specs.Instructions.{immediate, jump, literal_words, reach_words, load_instr, store_instr}
use Rattle.lb_emit_laws.specs.Frames.{Frame, slot_offset}
use Rattle.lb_emit_laws.specs.Code.{places_words, gets_code, puts_code, value_register, fetch_code, keep_code, fetch_words, plain_words, plain_code}
use Rattle.lb_emit_laws.proofs.Bytes.{Bytes, Registers, IsWritable, set_same, set_other}
use Rattle.lb_emit_laws.proofs.Owned.{Loaded, Holds-lower, unowned_below, width_above, width_loaded, width_small, store_writes}
use Rattle.lb_emit_laws.proofs.Places.{HasAt, HasAt-front, HasAt-behind}
use Rattle.lb_emit_laws.proofs.Steps.{advance, at, step_asks, step_loads, step_stores, step_tells, step_wants}
use Rattle.lb_emit_laws.proofs.Outcomes.{seq_comes, one_value_comes, two_values_comes, value_comes, value_then_comes, unless_then_comes}
use Rattle.lb_emit_laws.proofs.Ordered.{IsSource, IsTarget, IsPlaceTarget, Budget, Called, IsPlainInOrder}
use Rattle.lb_emit_laws.proofs.CodeLengths.{fetch_length, gets_length}
use Rattle.lb_emit_laws.proofs.Pieces.{Gives, copy_gives, get_gives, literal_gives, one_gives, op_gives, operate_below, plus_zero}
use Rattle.lb_emit_laws.proofs.Relation.{Changed, Quiet, Quiet-changed, found, Held, blocks_from, Matches, Reach, Left-same, Left-then, Left-quiet, Left-set, Left-store, Matches-quiet, Matches-set, Matches-memory}
use Rattle.lb_emit_laws.proofs.Passing.{Passes, Straight, fetch_finds, gets_pass, outside, puts_set, slot_puts, values_length}
use Rattle.lb_emit_laws.proofs.CodeRuns.{CallOk, Calling, CodeComes, Left-returned, Matches-returned, Reach-to, device_fine}

module _ (code : List ℕ) (small : length code ≤ 32768) (sp room : ℕ) (f : Frame) (low : 0x30000 + room ≤ sp) (fit : 4 * (length f.saved + f.slots) ≤ f.size) (high : sp + f.size ≤ 0x40000) where
  -- one register was set
  gives_comes : (i n : ℕ) (r v : ℕ) (cells : Cells) (w : World) (registers : Registers) (ram : Bytes) → IsTarget f r → v < 2 ^ 32 → Matches sp f cells w registers ram
      → Gives code i (i + n) registers ram w.replies w.trace r v
      → CodeComes code (Reach sp f (i + n) w.memory registers ram) n (at i registers ram w.replies w.trace) w.fuel (Goes (put (Register r) (Some v) cells) w)
  gives_comes i n r v cells w registers ram t word m g =
      leading {la = 0} g.goes (omega (arith, g.count)) (arrived (put (Register r) (Some v) cells, w) (record {
        after = g.after;
        left = ram;
        is = refl;
        matches = Matches-set r v t word g.value g.others m;
        leaves = Left-set w.memory registers g.after ram r t g.others;
      }))

  -- cells were set
  straight_comes : (i n : ℕ) (w : World) (registers : Registers) (ram : Bytes) (cells : Cells) → Straight code sp f i (i + n) w registers ram cells
      → CodeComes code (Reach sp f (i + n) w.memory registers ram) n (at i registers ram w.replies w.trace) w.fuel (Goes cells w)
  straight_comes i n w registers ram cells a =
      leading {la = 0} a.goes (omega (arith, a.count)) (arrived (cells, w) (record { after = a.after; left = a.left; is = refl; matches = a.matches; leaves = a.leaves }))

  -- after values were passed, the rest goes on
  passed_comes : {i j len : ℕ} {vs : List ℕ} {cells : Cells} {w : World} {registers : Registers} {ram : Bytes} (o : Outcome Cells) (n : ℕ) → (a : Passes code i (i + n) registers ram w.replies w.trace 10 vs)
      → Matches sp f cells w registers ram
      → (Matches sp f cells w a.after ram → CodeComes code (Reach sp f j w.memory a.after ram) len (at (i + n) a.after ram w.replies w.trace) w.fuel o)
      → CodeComes code (Reach sp f j w.memory registers ram) (n + len) (at i registers ram w.replies w.trace) w.fuel o
  passed_comes {i} {j} {len} {vs} {cells} {w} {registers} {ram} o n a m go =
      let f0 : ◌≢◌ {A = ℕ} 0 5 = omega arith in let f1 : ◌≢◌ {A = ℕ} 1 5 = omega arith in let f2 : ◌≢◌ {A = ℕ} 2 5 = omega arith in
      let q : Quiet registers a.after = record {
        none = a.others 0 f0 (inl (omega arith));
        link = a.others 1 f1 (inl (omega arith));
        stack = a.others 2 f2 (inl (omega arith));
        placed = λ r h. (let f5 : r ≢ 5 = omega (arith, h) in a.others r f5 (inr h));
      } in
      leading {la = len} a.goes (omega (arith, a.count))
      (fits (omega arith) (λ s c z. record { after = z.after; left = z.left; is = z.is; matches = z.matches; leaves = Left-then (Left-quiet w.memory registers a.after ram q) z.leaves }) (go (Matches-quiet q m)))

  -- ---- owned bytes

  load_gives : (k : Width) (i r a q v : ℕ) (registers : Registers) (ram : Bytes) (replies : List ℕ) (trace : List Event) → IsWritable r → registers a ≡ q → q < 2 ^ 32 → Loaded ram (byte_count k) q v
      → HasAt code i (load_instr k r a ∷ []) → Gives code i (i + 1) registers ram replies trace r v
  load_gives One i r a q v registers ram replies trace some is word l here =
      one_gives code small i registers ram replies trace r (number_at 1 q ram) v some l.reads
      (step_loads code small i 1 q registers ram replies trace (load_instr One r a) r here.0 refl refl (ap (λ k. effects.Loads k) (plus_zero (registers a) q is word)) l.inside)
  load_gives Two i r a q v registers ram replies trace some is word l here =
      one_gives code small i registers ram replies trace r (number_at 2 q ram) v some l.reads
      (step_loads code small i 2 q registers ram replies trace (load_instr Two r a) r here.0 refl refl (ap (λ k. effects.Loads k) (plus_zero (registers a) q is word)) l.inside)
  load_gives Four i r a q v registers ram replies trace some is word l here =
      one_gives code small i registers ram replies trace r (number_at 4 q ram) v some l.reads
      (step_loads code small i 4 q registers ram replies trace (load_instr Four r a) r here.0 refl refl (ap (λ k. effects.Loads k) (plus_zero (registers a) q is word)) l.inside)

  -- a store behind the code
  store_moves : (k : Width) (i a b q v : ℕ) (registers : Registers) (ram : Bytes) (replies : List ℕ) (trace : List Event) → registers a ≡ q → registers b ≡ v → q < 2 ^ 32 → q + byte_count k ≤ 0x40000 → sp ≤ q
      → HasAt code i (store_instr k a b ∷ []) → advance code (at i registers ram replies trace) ≡ Some (at (i + 1) registers (with_bytes (byte_count k) q v ram) replies trace)
  store_moves One i a b q v registers ram replies trace is value_is word inside above here =
      step_stores code small i 1 q v registers ram replies trace (store_instr One a b) here.0 refl
      (ap (λ k. effects.Stores k (registers b)) (plus_zero (registers a) q is word) ∙ ap (λ k. effects.Stores q k) value_is) inside (omega (arith, above, low, small))
  store_moves Two i a b q v registers ram replies trace is value_is word inside above here =
      step_stores code small i 2 q v registers ram replies trace (store_instr Two a b) here.0 refl
      (ap (λ k. effects.Stores k (registers b)) (plus_zero (registers a) q is word) ∙ ap (λ k. effects.Stores q k) value_is) inside (omega (arith, above, low, small))
  store_moves Four i a b q v registers ram replies trace is value_is word inside above here =
      step_stores code small i 4 q v registers ram replies trace (store_instr Four a b) here.0 refl
      (ap (λ k. effects.Stores k (registers b)) (plus_zero (registers a) q is word) ∙ ap (λ k. effects.Stores q k) value_is) inside (omega (arith, above, low, small))

  store_comes : (k : Width) (i a b q v : ℕ) (now : Memory) (cells : Cells) (w : World) (registers : Registers) (ram : Bytes) → Held registers a q → Held registers b v → store (byte_count k) q v w.memory ≡ Ok now
      → Matches sp f cells w registers ram → HasAt code i (store_instr k a b ∷ [])
      → CodeComes code (Reach sp f (i + 1) w.memory registers ram) 1 (at i registers ram w.replies w.trace) w.fuel (Goes cells (record w { memory = now }))
  store_comes k i a b q v now cells w registers ram ha hb is m here =
      let above = width_above (blocks_from sp f) w.memory ram m.holds k q v now ha.word is in
      let st = store_writes (blocks_from sp f) (byte_count k) q v w.memory ram now m.holds (omega (arith, above.inside)) is in
      let step = store_moves k i a b q v registers ram w.replies w.trace ha.is hb.is ha.word st.inside (omega (arith, above.from)) here in
      leading {la = 0} (Moves-one step) (omega arith) (arrived (cells, record w { memory = now }) (record {
        after = registers;
        left = with_bytes (byte_count k) q v ram;
        is = refl;
        matches = Matches-memory now st.holds (λ x lt. st.apart x (unowned_below (blocks_from sp f) w.memory ram x m.holds lt)) m;
        leaves = Left-store (blocks_from sp f) (byte_count k) q v w.memory registers ram now refl m.holds st;
      }))

  -- ---- devices

  -- what a command does with the values that its operation gives
  abbrev sets : List Place → Cells → List ℕ → World → Outcome Cells
  sets ys cells rs u = Goes (set_all (itself 0) ys rs cells) u

  -- a device is read, at the address in register b, and then the target is set
  asked : (t : Place) (i b a : ℕ) (replies : List ℕ) (cells : Cells) (w : World) (registers : Registers) (ram : Bytes) → w.replies ≡ replies → IsPlaceTarget f t → registers b ≡ a → a < 2 ^ 32 → address_fault a ≡ None
      → Matches sp f cells w registers ram → HasAt code i (load_instr Four (value_register 10 t) b ∷ keep_code f t 10)
      → CodeComes code (Reach sp f (i + 1 + fetch_words f t) w.memory registers ram) (1 + fetch_words f t) (at i registers ram replies w.trace) w.fuel
      (then_do (ask replies a w (λ v u. Goes (v ∷ []) u)) (sets (t ∷ []) cells))
  asked t i b a [] cells w registers ram same target is word fine m here =
      let e : effects.Loads (plus_immediate (registers b) (immediate 0)) ≡ effects.Loads a = ap (λ k. effects.Loads k) (plus_zero (registers b) a is word) in
      starving (step_wants code small i a registers ram w.trace (load_instr Four (value_register 10 t) b) here.0 refl e (device_fine a fine)) refl
  asked (Register y) i b a (v ∷ vs) cells w registers ram same target is word fine m here =
      let e : effects.Loads (plus_immediate (registers b) (immediate 0)) ≡ effects.Loads a = ap (λ k. effects.Loads k) (plus_zero (registers b) a is word) in
      let step = step_asks code small i a v registers ram vs w.trace (load_instr Four y b) y here.0 refl refl e (device_fine a fine) in
      let r1 = with_register y v registers in
      let u = record w { replies = vs; trace = w.trace ++ Ld a v ∷ [] } in
      let words = subst (λ (l : List ℕ). AreWords l) same m.replies in
      let c : Changed y registers r1 = λ r n n5. set_other y v registers r n in
      let some : IsWritable y = (omega (arith, target.from), target.below) in
      let m1 : Matches sp f cells u registers ram = record { none = m.none; base = m.base; stack = m.stack; held = m.held; slots = m.slots; holds = m.holds; replies = words.1 } in
      let z : i + 1 ≡ i + 1 + 0 = omega arith in
      leading {la = 0} (Moves-one step) (omega arith) (arrived (put (Register y) (Some v) cells, u) (record {
        after = r1;
        left = ram;
        is = ap (λ n. at n r1 ram vs (w.trace ++ Ld a v ∷ [])) z;
        matches = Matches-set y v target words.0 (set_same y v registers some) c m1;
        leaves = Left-set w.memory registers r1 ram y target c;
      }))
  asked (Slot k) i b a (v ∷ vs) cells w registers ram same target is word fine m here =
      let e : effects.Loads (plus_immediate (registers b) (immediate 0)) ≡ effects.Loads a = ap (λ k. effects.Loads k) (plus_zero (registers b) a is word) in
      let step = step_asks code small i a v registers ram vs w.trace (load_instr Four 10 b) 10 here.0 refl refl e (device_fine a fine) in
      let r1 = with_register 10 v registers in
      let u = record w { replies = vs; trace = w.trace ++ Ld a v ∷ [] } in
      let words = subst (λ (l : List ℕ). AreWords l) same m.replies in
      let c : Changed 10 registers r1 = λ r n n5. set_other 10 v registers r n in
      let q = Quiet-changed 10 registers r1 (omega arith) (omega arith) c in
      let m1 : Matches sp f cells u r1 ram = record {
        none = q.none ∙ m.none;
        base = q.stack ∙ m.base;
        stack = m.stack;
        held = (Matches-quiet q m).held;
        slots = m.slots;
        holds = m.holds;
        replies = words.1;
      } in
      let some : IsWritable 10 = (omega arith, omega arith) in
      let n5 : ◌≢◌ {A = ℕ} 10 5 = omega arith in
      let first = slot_puts code small sp f (omega (arith, low)) fit high k 10 (i + 1) v cells u r1 ram n5 (set_same 10 v registers some) words.0 target m1 here.1 in
      leading {la = fetch_words f (Slot k)} (Moves-one step) (omega arith)
      (fits (omega arith) (λ s d z. record { after = z.after; left = z.left; is = z.is; matches = z.matches; leaves = Left-then (Left-quiet w.memory registers r1 ram q) z.leaves })
      (straight_comes (i + 1) (fetch_words f (Slot k)) u r1 ram (put (Slot k) (Some v) cells) first))

  -- the first argument of two stays where it is while the second one comes
  first_apart : (a : Place) → IsSource f a → (value_register 10 a ≢ 11) × (value_register 10 a ≢ 5)
  first_apart (Register r) s = (omega (arith, s.from), omega (arith, s.from))
  first_apart (Slot k) s = let n : ◌≢◌ {A = ℕ} 10 11 = omega arith in let n5 : ◌≢◌ {A = ℕ} 10 5 = omega arith in (n, n5)

  module _ (fs : List (Routine Place)) (entry : ℕ → ℕ) (call : Caller) (bound : ℕ) (ok : CallOk code fs entry call bound) where
    -- the code of a plain command at number i does what the command does
    abbrev PlainDone : Operation → List Place → List Place → Type 0
    PlainDone o xs ys =
        (i : ℕ) (cells : Cells) (w : World) (registers : Registers) (ram : Bytes) → IsPlainInOrder fs (Budget fs room) f o xs ys → HasAt code i (plain_code f entry i o xs ys) → w.fuel ≤ bound
        → Matches sp f cells w registers ram
        → CodeComes code (Reach sp f (i + plain_words f o xs ys) w.memory registers ram) (plain_words f o xs ys) (at i registers ram w.replies w.trace) w.fuel
        (with_value (values (itself 0) xs cells) w (λ vs. then_do (effect call o vs w) (sets ys cells)))

    call_done : (g : ℕ) (xs ys : List Place) → PlainDone (Call g) xs ys
    call_done g xs ys i cells w registers ram h here few m =
        let pw = places_words f xs in
        let front = gets_code f 10 xs in
        let rest = jump 1 (i + pw) (entry g) ∷ puts_code f ys 10 in
        let e : i + pw + 1 + places_words f ys ≡ i + (pw + (1 + places_words f ys)) = omega arith in
        value_comes (values (itself 0) xs cells) w (λ vs. then_do (call g vs w) (sets ys cells)) (λ vs is.
        let long = values_length cells xs vs is in
        let a = gets_pass code small sp f (omega (arith, low)) fit high xs 10 i vs cells w registers ram w.replies w.trace h.0 is (omega arith) (omega (arith, h.2)) m (HasAt-front code i front rest here) in
        let called = subst (λ k. Called fs (Budget fs room) g k (length ys)) (sym long) h.5 in
        let behind = HasAt-behind code i (i + pw) pw front rest here (gets_length f 10 xs) refl in
        passed_comes {len = 1 + places_words f ys} (then_do (call g vs w) (sets ys cells)) pw a m (λ m1. fits {la = 1 + places_words f ys} (omega arith) (λ s c z. Reach-to (i + (pw + (1 + places_words f ys))) e z)
        (let calling : Calling sp w a.after ram = record { none = m1.none; base = m1.base; stack = m1.stack; holds = Holds-lower sp (blocks_from sp f) w.memory ram (omega arith) m1.holds; replies = m1.replies } in
        seq_comes {lb = places_words f ys} (call g vs w) (sets ys cells) (omega arith)
        (ok sp room low (omega (arith, high)) g (i + pw) (length ys) vs w a.after ram called (omega (arith, long, h.2)) h.3 a.passed calling behind.0 few)
        (λ rs u c back less.
        let mb = Matches-returned m1 back in
        let t = puts_set code small sp f (omega (arith, low)) fit high ys 10 (i + pw + 1) rs cells u back.after back.left h.1 back.count back.passed (omega arith) (omega (arith, h.3)) mb behind.1 in
        subst (λ d. CodeComes code (Reach sp f (i + pw + 1 + places_words f ys) w.memory a.after ram) (places_words f ys) d u.fuel (sets ys cells rs u)) (sym back.is)
        (fits (omega arith) (λ s d z. record { after = z.after; left = z.left; is = z.is; matches = z.matches; leaves = Left-then (Left-returned h.4 m1 back) z.leaves })
        (straight_comes (i + pw + 1) (places_words f ys) u back.after back.left (set_all (itself 0) ys rs cells) t))))))

    read_done : (a t : Place) → PlainDone (Access Read) (a ∷ []) (t ∷ [])
    read_done a t i cells w registers ram h here few m =
        let pw = fetch_words f a in
        let front = fetch_code f 10 a in
        let rest = load_instr Four (value_register 10 t) (value_register 10 a) ∷ keep_code f t 10 in
        let e : i + pw + 1 + fetch_words f t ≡ i + (pw + (1 + fetch_words f t)) = omega arith in
        let behind = HasAt-behind code i (i + pw) pw front rest here (fetch_length f 10 a) refl in
        one_value_comes (or_unset (cells a)) w (λ vs. then_do (gives (Access Read) vs w) (sets (t ∷ []) cells)) (λ v is.
        let b = fetch_finds code small sp f (omega (arith, low)) fit high a 10 i v cells w registers ram w.replies w.trace (omega arith, omega arith) h.0 is m (HasAt-front code i front rest here) in
        let passed : Passes code i (i + pw) registers ram w.replies w.trace 10 [] = record {
          after = b.after;
          steps = b.steps;
          count = b.count;
          goes = b.goes;
          passed = tt;
          others = λ r n k. b.others r (outside r 10 (omega arith) (omega arith) k) n;
        } in
        passed_comes {len = 1 + fetch_words f t} (then_do (gives (Access Read) (v ∷ []) w) (sets (t ∷ []) cells)) pw passed m (λ m1.
        unless_then_comes (address_fault v) w (ask w.replies v w (λ x u. Goes (x ∷ []) u)) (sets (t ∷ []) cells) (λ fine.
        fits (omega arith) (λ s c z. Reach-to (i + (pw + (1 + fetch_words f t))) e z)
        (asked t (i + pw) (value_register 10 a) v w.replies cells w b.after ram refl h.1 b.is b.word fine m1 behind))))

    write_done : (a x : Place) → PlainDone (Access Write) (a ∷ x ∷ []) []
    write_done a x i cells w registers ram h here few m =
        let wa = fetch_words f a in
        let wx = fetch_words f x in
        let k = i + (wa + wx) in
        let front = fetch_code f 10 a in
        let second = fetch_code f 11 x in
        let last = store_instr Four (value_register 10 a) (value_register 11 x) ∷ [] in
        let rest = HasAt-behind code i (i + wa) wa front (second ++ last) here (fetch_length f 10 a) refl in
        let behind = HasAt-behind code (i + wa) k wx second last rest (fetch_length f 11 x) (omega arith) in
        two_values_comes (or_unset (cells a)) (or_unset (cells x)) w (λ vs. then_do (gives (Access Write) vs w) (sets [] cells)) (λ v y is was.
        let b1 = fetch_finds code small sp f (omega (arith, low)) fit high a 10 i v cells w registers ram w.replies w.trace (omega arith, omega arith) h.0 is m (HasAt-front code i front (second ++ last) here) in
        let q = Quiet-changed 10 registers b1.after (omega arith) (omega arith) b1.others in
        let b2 = fetch_finds code small sp f (omega (arith, low)) fit high x 11 (i + wa) y cells w b1.after ram w.replies w.trace (omega arith, omega arith) h.1 was (Matches-quiet q m) (HasAt-front code (i + wa) second last rest) in
        let passed : Passes code i (i + (wa + wx)) registers ram w.replies w.trace 10 [] = record {
          after = b2.after;
          steps = b1.steps + b2.steps;
          count = omega (arith, b1.count, b2.count);
          goes = let z : i + wa + wx ≡ i + (wa + wx) = omega arith in
              subst (λ n. Moves (advance code) (b1.steps + b2.steps) (at i registers ram w.replies w.trace) (at n b2.after ram w.replies w.trace)) z (Moves-then b1.goes b2.goes);
          passed = tt;
          others = λ r n o. b2.others r (outside r 11 (omega arith) (omega arith) o) n ∙ b1.others r (outside r 10 (omega arith) (omega arith) o) n;
        } in
        let apart = first_apart a h.0 in
        let address = b2.others (value_register 10 a) apart.0 apart.1 ∙ b1.is in
        let u = record w { trace = w.trace ++ St v y ∷ [] } in
        passed_comes {len = 1} (then_do (gives (Access Write) (v ∷ y ∷ []) w) (sets [] cells)) (wa + wx) passed m (λ m1.
        unless_then_comes (address_fault v) w (Goes [] u) (sets [] cells) (λ fine.
        let step = step_tells code small k v y b2.after ram w.replies w.trace (store_instr Four (value_register 10 a) (value_register 11 x)) behind.0 refl
        (ap (λ n. effects.Stores n (b2.after (value_register 11 x))) (plus_zero (b2.after (value_register 10 a)) v address b1.word) ∙ ap (λ n. effects.Stores v n) b2.is) (device_fine v fine) in
        let e : k + 1 ≡ i + (wa + wx + 1) = omega arith in
        leading {la = 0} (Moves-one step) (omega arith) (arrived (cells, u) (record {
          after = b2.after;
          left = ram;
          is = ap (λ n. at n b2.after ram w.replies (w.trace ++ St v y ∷ [])) e;
          matches = record { none = m1.none; base = m1.base; stack = m1.stack; held = m1.held; slots = m1.slots; holds = m1.holds; replies = m1.replies };
          leaves = Left-same w.memory b2.after ram;
        })))))

    -- each plain command
    pub plain_comes : (o : Operation) (xs ys : List Place) → PlainDone o xs ys
    plain_comes (Constant v) [] (Register y ∷ []) i cells w registers ram h here few m =
        gives_comes i (literal_words v) y v cells w registers ram h.0 h.1 m (literal_gives code small i registers ram w.replies w.trace y v (omega (arith, h.0.from), h.0.below) m.none h.1 here)
    plain_comes Copy (Register x ∷ []) (Register y ∷ []) i cells w registers ram h here few m =
        one_value_comes (or_unset (cells (Register x))) w _ (λ v is.
        let held = m.held x v (found (cells (Register x)) v is) in
        gives_comes i 1 y v cells w registers ram h.1 held.word m (copy_gives code small i registers ram w.replies w.trace y x v (omega (arith, h.1.from), h.1.below) held.is held.word here))
    plain_comes Copy (Slot k ∷ []) (Register y ∷ []) i cells w registers ram h here few m =
        one_value_comes (or_unset (cells (Slot k))) w _ (λ v is.
        let held = m.slots k v (found (cells (Slot k)) v is) in
        let g = get_gives code small i registers ram w.replies w.trace y (slot_offset f k) sp (omega (arith, h.1.from), h.1.below) m.base (omega (arith, fit, high, h.0)) here in
        gives_comes i (reach_words (slot_offset f k)) y v cells w registers ram h.1 held.word m
        (subst (λ x. Gives code i (i + reach_words (slot_offset f k)) registers ram w.replies w.trace y x) held.is g))
    plain_comes Copy (Register x ∷ []) (Slot k ∷ []) i cells w registers ram h here few m =
        one_value_comes (or_unset (cells (Register x))) w _ (λ v is.
        let held = m.held x v (found (cells (Register x)) v is) in
        straight_comes i (reach_words (slot_offset f k)) w registers ram (put (Slot k) (Some v) cells)
        (slot_puts code small sp f (omega (arith, low)) fit high k x i v cells w registers ram (omega (arith, held.from)) held.is held.word h.1 m here))
    plain_comes (Compute op) (Register l ∷ Register r ∷ []) (Register y ∷ []) i cells w registers ram h here few m =
        two_values_comes (or_unset (cells (Register l))) (or_unset (cells (Register r))) w _ (λ u v is was.
        let left = m.held l u (found (cells (Register l)) u is) in
        let right = m.held r v (found (cells (Register r)) v was) in
        gives_comes i (operation_words op) y (operate op u v) cells w registers ram h.2 (operate_below op u v left.word right.word) m
        (op_gives code small op i registers ram w.replies w.trace y l r u v (omega (arith, h.2.from), h.2.below) left.is right.is left.word right.word here))
    plain_comes (Load k) (Register a ∷ []) (Register y ∷ []) i cells w registers ram h here few m =
        one_value_comes (or_unset (cells (Register a))) w _ (λ q is.
        value_then_comes (load w.memory (byte_count k) q) w (λ v. Goes (v ∷ []) w) (sets (Register y ∷ []) cells) (λ v was.
        let held = m.held a q (found (cells (Register a)) q is) in
        let l = width_loaded (blocks_from sp f) w.memory ram m.holds k q v held.word was in
        gives_comes i 1 y v cells w registers ram h.1 (width_small k v l.small) m (load_gives k i y a q v registers ram w.replies w.trace (omega (arith, h.1.from), h.1.below) held.is held.word l here)))
    plain_comes (Store k) (Register a ∷ Register x ∷ []) [] i cells w registers ram h here few m =
        two_values_comes (or_unset (cells (Register a))) (or_unset (cells (Register x))) w _ (λ q v is was.
        value_then_comes (store (byte_count k) q v w.memory) w (λ memory. Goes [] (record w { memory = memory })) (sets [] cells) (λ now does.
        store_comes k i a x q v now cells w registers ram (m.held a q (found (cells (Register a)) q is)) (m.held x v (found (cells (Register x)) v was)) does m here))
    plain_comes (Call g) xs ys i cells w registers ram h here few m = call_done g xs ys i cells w registers ram h here few m
    plain_comes (Access Read) (a ∷ []) (t ∷ []) i cells w registers ram h here few m = read_done a t i cells w registers ram h here few m
    plain_comes (Access Write) (a ∷ x ∷ []) [] i cells w registers ram h here few m = write_done a x i cells w registers ram h here few m
    plain_comes o xs ys i cells w registers ram h here few m = absurd h
