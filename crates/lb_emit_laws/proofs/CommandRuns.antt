-- The code of a command or a block does what the command does.
use Rattle.std.proofs.Common.{◌≡◌, ℕ, ◌+◌, ◌*◌, ◌^◌, ◌≤◌, ◌<◌, List, [], ◌∷◌, ◌++◌, drop, length, Some, None, refl, sym, ap, ◌∙◌, subst, arith}
use Rattle.lb_steps.proofs.Simulation.{Tests, arrived, fits, leading, move_behind}
use Rattle.lb_source.specs.Maps.{with_range}
use Rattle.lb_source.specs.Value.{or_unset}
use Rattle.lb_flat.specs.declared.places.Place.{Place}
use Rattle.lb_flat.specs.declared.places.Place.TheVariants.{Register, Slot}
use Rattle.lb_flat.specs.Cells.{Cells, put}
use Rattle.lb_flat.specs.Code.{Code, Plain, Reserve, Branch, Loop, Nothing, Sequence, sites, Routine}
use Rattle.lb_flat.specs.Run.{World, Goes, Caller, run_with, owned, disowned}
use Rattle.lb_flat.specs.Whole.{itself}
use Rattle.lb_emit_laws.specs.Instructions.{jump, skip_unless_zero, address_code}
use Rattle.lb_emit_laws.specs.Frames.{Frame}
use Rattle.lb_emit_laws.specs.Code.{over_code, over_words, code_words, command_code}
use Rattle.lb_emit_laws.proofs.Bytes.{Bytes, Registers}
use Rattle.lb_emit_laws.proofs.Owned.{Holds-allocated, Holds-released}
use Rattle.lb_emit_laws.proofs.Places.{HasAt, HasAt-front, HasAt-behind, HasAt-to}
use Rattle.lb_emit_laws.proofs.Steps.{advance, at, trace_of}
use Rattle.lb_emit_laws.proofs.Outcomes.{seq_comes, value_comes, branch_comes, loop_comes}
use Rattle.lb_emit_laws.proofs.Ordered.{Budget, InOrder}
use Rattle.lb_emit_laws.proofs.CodeLengths.{command_length, over_length}
use Rattle.lb_emit_laws.proofs.Pieces.{Gives, address_gives}
use Rattle.lb_emit_laws.proofs.Relation.{found, blocks_from, Matches, Reach, Left-same, Left-then, Left-set, Left-block, Matches-set, Matches-memory}
use Rattle.lb_emit_laws.proofs.CodeRuns.{CallOk, CodeComes, Reach-to, Reach-fuel, jumps_to, onward, over_comes, tests_at}
use Rattle.lb_emit_laws.proofs.PlainRuns.{plain_comes}

module _ (code : List ℕ) (small : length code ≤ 32768) (sp room : ℕ) (f : Frame) (low : 0x30000 + room ≤ sp) (fit : 4 * (length f.saved + f.slots) ≤ f.size) (high : sp + f.size ≤ 0x40000)
    (fs : List (Routine Place)) (entry : ℕ → ℕ) (call : Caller) (bound : ℕ) (ok : CallOk code fs entry call bound) where
  -- the code of a command at number i does what the command does
  abbrev Done : Code Place → Type 0
  Done c =
      (os : List ℕ) (i : ℕ) (cells : Cells) (w : World) (registers : Registers) (ram : Bytes) → InOrder fs (Budget fs room) f os c → HasAt code i (command_code f entry os i c) → i + code_words f c ≤ length code
      → w.fuel ≤ bound → Matches sp f cells w registers ram
      → CodeComes code (Reach sp f (i + code_words f c) w.memory registers ram) (code_words f c) (at i registers ram w.replies w.trace) w.fuel (run_with (itself 0) call bound os c cells w)

  sequence_done : (c d : Code Place) → Done c → Done d → Done (Sequence c d)
  sequence_done c d hc hd os i cells w registers ram h here near few m =
      let front = command_code f entry os i c in
      let os2 = drop (length (sites c)) os in
      let j = i + code_words f c in
      let behind = command_code f entry os2 j d in
      let e : j + code_words f d ≡ i + (code_words f c + code_words f d) = omega arith in
      seq_comes {lb = code_words f d} (run_with (itself 0) call bound os c cells w) (run_with (itself 0) call bound os2 d) (omega arith)
      (hc os i cells w registers ram h.0 (HasAt-front code i front behind here) (omega (arith, near)) few m)
      (λ now u k a less. onward code (run_with (itself 0) call bound os2 d now u) a (λ after left mt. fits (omega arith) (λ s k z. Reach-to (i + (code_words f c + code_words f d)) e z)
      (hd os2 j now u after left h.1 (HasAt-behind code i j (code_words f c) front behind here (command_length f entry os i c) refl) (omega (arith, near)) (omega (arith, few, less)) mt)))

  branch_done : (r : ℕ) (b d : Code Place) → Done b → Done d → Done (Branch (Register r) b d)
  branch_done r b d hb hd os i cells w registers ram h here near few m =
      let os2 = drop (length (sites b)) os in
      let wb = code_words f b in
      let wd = code_words f d in
      let j = i + 2 + wb in
      let k = j + over_words wd in
      let first = command_code f entry os (i + 2) b in
      let second = command_code f entry os2 k d in
      let all = code_words f (Branch (Register r) b d) in
      let e : k + wd ≡ i + all = omega arith in
      let inner = HasAt-to code (i + 1 + 1) (i + 2) (first ++ (over_code j wd ++ second)) here.1.1 (omega arith) in
      let tail = HasAt-behind code (i + 2) j wb first (over_code j wd ++ second) inner (command_length f entry os (i + 2) b) refl in
      let behind = HasAt-behind code j k (over_words wd) (over_code j wd) second tail (over_length j wd) refl in
      value_comes (or_unset (cells (Register r))) w _ (λ v is.
      let held = m.held r v (found (cells (Register r)) v is) in
      branch_comes {la = wd} {lb = wb + over_words wd} v _ _ (omega arith) (omega arith)
      (tests_at code small i k r v registers ram w.replies w.trace (λ c. c ≡ at k registers ram w.replies w.trace) (λ c. c ≡ at (i + 2) registers ram w.replies w.trace)
      m.none held.is (omega (arith, near, small)) here.0 here.1.0 refl refl)
      (λ c z. subst (λ c. CodeComes code (Reach sp f (i + all) w.memory registers ram) wd c w.fuel (run_with (itself 0) call bound os2 d cells w)) (sym z)
      (fits (omega arith) (λ s n q. Reach-to (i + all) e q)
      (hd os2 k cells w registers ram h.2 behind (omega (arith, near)) few m)))
      (λ c z. subst (λ c. CodeComes code (Reach sp f (i + all) w.memory registers ram) (wb + over_words wd) c w.fuel (run_with (itself 0) call bound os b cells w)) (sym z)
      (over_comes code small wd j (i + all) wb w.memory registers ram (run_with (itself 0) call bound os b cells w) (HasAt-front code j (over_code j wd) second tail) (omega (arith, near, small)) e
      (hb os (i + 2) cells w registers ram h.1 (HasAt-front code (i + 2) first (over_code j wd ++ second) inner) (omega (arith, near)) few m))))

  loop_done : (b : Code Place) (r : ℕ) (d : Code Place) → Done b → Done d → Done (Loop b (Register r) d)
  loop_done b r d hb hd os i cells w registers ram h here near few m =
      let os2 = drop (length (sites b)) os in
      let wb = code_words f b in
      let wd = code_words f d in
      let head = command_code f entry os i b in
      let j = i + wb in
      let body = command_code f entry os2 (j + 2) d in
      let last = jump 0 (j + 2 + wd) i in
      let exit = jump 0 (j + 1) (j + 2 + wd + 1) in
      let tail = HasAt-behind code i j wb head (skip_unless_zero r ∷ exit ∷ (body ++ last ∷ [])) here (command_length f entry os i b) refl in
      let inner = HasAt-to code (j + 1 + 1) (j + 2) (body ++ last ∷ []) tail.1.1 (omega arith) in
      let back = HasAt-behind code (j + 2) (j + 2 + wd) wd body (last ∷ []) inner (command_length f entry os2 (j + 2) d) refl in
      let all = code_words f (Loop b (Register r) d) in
      let e : j + 2 + wd + 1 ≡ i + all = omega arith in
      let R = λ (k : ℕ). Reach sp f k w.memory registers ram in
      fits {la = wb + 0 + 2} (omega arith) (λ s c a. a)
      (loop_comes (R (i + all)) (R i) (R j) (R (j + 2)) (R (j + 2 + wd)) (λ c. c (Register r)) (run_with (itself 0) call bound os b) (run_with (itself 0) call bound os2 d) bound wb 0 wd (omega (arith, near))
      (λ s c top low_fuel. onward code (run_with (itself 0) call bound os b s.0 s.1) top (λ after left mt. hb os i s.0 s.1 after left h.1 (HasAt-front code i head _ here) (omega (arith, near)) low_fuel mt))
      (λ s c v mid is.
      let held = mid.matches.held r v (found (s.0 (Register r)) v is) in
      let tests = tests_at code small j (j + 2 + wd + 1) r v mid.after mid.left s.1.replies s.1.trace (R (i + all) s) (R (j + 2) s) mid.matches.none held.is (omega (arith, near, small)) tail.0 tail.1.0
      (record { after = mid.after; left = mid.left; is = ap (λ n. at n mid.after mid.left s.1.replies s.1.trace) e; matches = mid.matches; leaves = mid.leaves })
      (record { after = mid.after; left = mid.left; is = refl; matches = mid.matches; leaves = mid.leaves }) in
      subst (λ n. Tests (advance code) trace_of (R (i + all) s) (R (j + 2) s) 0 n v s.1.trace) (sym mid.is) tests)
      (λ s c fuel inside some low_fuel. onward code (run_with (itself 0) call bound os2 d s.0 (record s.1 { fuel = fuel })) (Reach-fuel fuel inside)
      (λ after left mt. hd os2 (j + 2) s.0 (record s.1 { fuel = fuel }) after left h.2 (HasAt-front code (j + 2) body (last ∷ []) inner) (omega (arith, near)) low_fuel mt))
      (λ s c behind. jumps_to code small (j + 2 + wd) i i w.memory registers ram s c back.0 (omega (arith, near, small)) refl behind)
      bound (cells, w) (at i registers ram w.replies w.trace) few few
      (record { after = registers; left = ram; is = refl; matches = m; leaves = Left-same w.memory registers ram }))

  reserve_done : (n r : ℕ) (b : Code Place) → Done b → Done (Reserve n (Register r) b)
  reserve_done n r b hb [] i cells w registers ram h here near few m = absurd h.1
  reserve_done n r b hb (o ∷ os) i cells w registers ram h here near few m =
      let base = w.stack + o in
      let e : sp + o ≡ base = ap (λ k. k + o) (sym m.stack) in
      let front = address_code r o in
      let body = command_code f entry os (i + 3) b in
      let word : sp + o < 2 ^ 32 = omega (arith, h.1.1, high) in
      let g0 = address_gives code small i registers ram w.replies w.trace r o sp (omega (arith, h.0.from)) h.0.below m.base word (HasAt-front code i front body here) in
      let g = subst (λ v. Gives code i (i + 3) registers ram w.replies w.trace r v) e g0 in
      let now = with_range base n (Some None) w.memory in
      let holds = Holds-allocated (blocks_from sp f) base n w.memory ram m.holds (omega (arith, e, h.1.0)) (omega (arith, e, h.1.1, high)) in
      let m1 = Matches-memory {left = ram} now holds (λ x lt. refl) (Matches-set r base h.0 (omega (arith, e, word)) g.value g.others m) in
      let cells1 = put (Register r) (Some base) cells in
      let w1 = owned base n w in
      let z : i + 3 + code_words f b ≡ i + (3 + code_words f b) = omega arith in
      leading {la = code_words f b + 0} g.goes (omega (arith, g.count))
      (seq_comes {lb = 0} (run_with (itself 0) call bound os b cells1 w1) (λ c u. Goes c (disowned base n u)) (omega arith)
      (hb os (i + 3) cells1 w1 g.after ram h.2 (HasAt-behind code i (i + 3) 3 front body here refl refl) (omega (arith, near)) few m1)
      (λ c u k a less. arrived (c, disowned base n u) (record {
        after = a.after;
        left = a.left;
        is = a.is ∙ ap (λ k. at k a.after a.left u.replies u.trace) z;
        matches = Matches-memory {left = a.left} (with_range base n None u.memory) (Holds-released (blocks_from sp f) base n u.memory a.left a.matches.holds) (λ x lt. refl) a.matches;
        leaves = Left-then (Left-set w.memory registers g.after ram r h.0 g.others) (Left-block base n w.memory u.memory g.after a.after ram a.left (omega (arith, e, h.1.1)) a.leaves);
      })))

  -- each command
  pub command_comes : (c : Code Place) → Done c
  command_comes (Plain o xs ys) os i cells w registers ram h here near few m = plain_comes code small sp room f low fit high fs entry call bound ok o xs ys i cells w registers ram h here few m
  command_comes (Reserve n (Register r) b) os i cells w registers ram h here near few m = reserve_done n r b (command_comes b) os i cells w registers ram h here near few m
  command_comes (Reserve n (Slot k) b) os i cells w registers ram h here near few m = absurd h.0
  command_comes (Branch (Register r) b d) os i cells w registers ram h here near few m = branch_done r b d (command_comes b) (command_comes d) os i cells w registers ram h here near few m
  command_comes (Branch (Slot k) b d) os i cells w registers ram h here near few m = absurd h.0
  command_comes (Loop b (Register r) d) os i cells w registers ram h here near few m = loop_done b r d (command_comes b) (command_comes d) os i cells w registers ram h here near few m
  command_comes (Loop b (Slot k) d) os i cells w registers ram h here near few m = absurd h.0
  command_comes Nothing os i cells w registers ram h here near few m =
      let e : i ≡ i + 0 = omega arith in
      arrived (cells, w) (record { after = registers; left = ram; is = ap (λ n. at n registers ram w.replies w.trace) e; matches = m; leaves = Left-same w.memory registers ram })
  command_comes (Sequence c d) os i cells w registers ram h here near few m = sequence_done c d (command_comes c) (command_comes d) os i cells w registers ram h here near few m
