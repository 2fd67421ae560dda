-- Spilled code does what flat code does with the variables in their places.
use Rattle.std.proofs.Common.{◌≡◌, ℕ, zero, suc, ◌-◌, ◌<◌, ◌≤◌, Bool, true, false, List, [], ◌∷◌, ◌++◌, map, drop, length, Option, Some, None, refl, sym, ap, ◌∙◌, subst, arith, slice_get, leb-true}
use Rattle.std.specs.Prelude.{nat_le}
use Rattle.std.specs.List.{AllByRecursion}
use Rattle.lb_syntax.specs.declared.layout.FrameLayout.{FrameLayout}
use Rattle.lb_source.specs.Value.{or_unset}
use Rattle.lb_source.specs.Run.{block_at}
use Rattle.lb_source.specs.declared.ends.SourceEnd.TheVariants.{Spent}
use Rattle.lb_flat.specs.declared.registers.TheConstants.{FIRST_SCRATCH_REGISTER}
use Rattle.lb_flat.specs.declared.places.Place.{Place}
use Rattle.lb_flat.specs.declared.places.Place.TheVariants.{Register, Slot}
use Rattle.lb_flat.specs.Cells.{Cells, no_cells, put, set_all}
use Rattle.lb_flat.specs.Code.{Code, Plain, Reserve, Branch, Loop, Nothing, Sequence, sites, Routine, Executable}
use Rattle.lb_flat.specs.Run.{World, Outcome, Goes, Stops, then_do, with_value, at_zero, spend, Caller, values, turns, owned, disowned, run_with, Callable, enter, calls}
use Rattle.lb_flat.specs.Whole.{callable, callables, start, itself}
use Rattle.lb_flat.specs.Located.{place_of, located_at}
use Rattle.lb_flat.specs.Accepted.{MayHold, AreAllAccepted}
use Rattle.lb_flat.proofs.FlatForms.{by_elements}
use Rattle.lb_flat.proofs.FlatSites.{drop_both}
use Rattle.lb_flat.proofs.SourceFollow.{then_goes}
use Rattle.lb_flat.proofs.Follow.{Follows, both_go, both_stop, owes_nothing, then_follows, value_follows, zero_follows, spend_follows, Same, CallsFollow, end_alike, ever_alike}
use Rattle.lb_spill.specs.InternalSpill.{in_register, got, put_back, spill, spilled, all_spilled, spilled_executable}
use Rattle.lb_spill.specs.Placing.{HasLocatedRuns}
use Rattle.lb_spill.proofs.SpillSites.{put_back_sites, block_sites, head_sites}
use Rattle.lb_spill.proofs.SpillCells.{own, is_scratch, Holds, holds_set_all, values_hold, got_follows, put_back_follows}
use Rattle.lb_spill.proofs.SpillPlain.{plain_follows}

-- ---- ways to go on, one after another

then_assoc : {V U T : Type 0} (o : Outcome V) (f : V → World → Outcome U) (g : U → World → Outcome T) → then_do (then_do o f) g ≡ then_do o (λ a w. then_do (f a w) g)
then_assoc (Goes a w) f g = refl
then_assoc (Stops t e) f g = refl

regroup : (R : Cells → Cells → Type 0) (p o : Outcome Cells) (f K : Cells → World → Outcome Cells) → Follows R (then_do o (λ a u. then_do (f a u) K)) p → Follows R (then_do (then_do o f) K) p
regroup R p o f K h = subst (λ q. Follows R q p) (sym (then_assoc o f K)) h

bare : (R : Cells → Cells → Type 0) (o p : Outcome Cells) → Follows R (then_do o Goes) (then_do p Goes) → Follows R o p
bare R o p h = subst (λ q. Follows R q p) (then_goes o) (subst (λ q. Follows R (then_do o Goes) q) (then_goes p) h)

-- after blocks whose cells hold
module _ (R : Cells → Cells → Type 0) (K G L : Cells → World → Outcome Cells) where
  after_blocks : {o p : Outcome Cells} → Follows Holds o p → ((a b : Cells) (u : World) → Holds a b → Follows R (K a u) (then_do (G b u) L)) → Follows R (then_do o K) (then_do (then_do p G) L)
  after_blocks (both_go g) k = k _ _ _ g
  after_blocks both_stop k = both_stop
  after_blocks owes_nothing k = owes_nothing

  after_body : (D : World → World) {o p : Outcome Cells} → Follows Holds o p → ((a b : Cells) (u : World) → Holds a b → Follows R (K a (D u)) (then_do (G b (D u)) L))
      → Follows R (then_do (then_do o (λ c u. Goes c (D u))) K) (then_do (then_do (then_do p (λ c u. Goes c (D u))) G) L)
  after_body D (both_go g) k = k _ _ _ g
  after_body D both_stop k = both_stop
  after_body D owes_nothing k = owes_nothing

-- a loop, whose heads lead to tests that give the same
module _ (test test' : Cells → Option ℕ) (head head' body body' : Cells → World → Outcome Cells)
    (heads : (K L : ℕ → Cells → World → Outcome Cells) (a b : Cells) (w : World) → Holds a b → ((a' b' : Cells) (u : World) (v : ℕ) → Holds a' b' → Follows Holds (K v a' u) (L v b' u))
    → Follows Holds (then_do (head a w) (λ c u. with_value (or_unset (test c)) u (λ v. K v c u))) (then_do (head' b w) (λ c u. with_value (or_unset (test' c)) u (λ v. L v c u))))
    (bodies : (a b : Cells) (w : World) → Holds a b → Follows Holds (body a w) (body' b w)) where
  loop_follows : (m : ℕ) (a b : Cells) (w : World) → Holds a b → Follows Holds (turns m test head body a w) (turns m test' head' body' b w)
  loop_follows zero a b w g =
      heads (λ v c u. at_zero v (Goes c u) (Stops u.trace Spent)) (λ v c u. at_zero v (Goes c u) (Stops u.trace Spent)) a b w g
      (λ a' b' u v g'. zero_follows Holds v _ _ _ _ (both_go g') both_stop)
  loop_follows (suc m) a b w g =
      heads (λ v c u. at_zero v (Goes c u) (spend u.fuel u (λ t. then_do (body c t) (turns m test head body)))) (λ v c u. at_zero v (Goes c u) (spend u.fuel u (λ t. then_do (body' c t) (turns m test' head' body')))) a b w g
      (λ a' b' u v g'. zero_follows Holds v _ _ _ _ (both_go g') (spend_follows Holds u.fuel u _ _ (λ t.
      then_follows Holds Holds (turns m test head body) (turns m test' head' body') (bodies a' b' t g') (λ c d t' g''. loop_follows m c d t' g''))))

-- ---- commands

module _ (cell : ℕ → Place) (fit : (x : ℕ) → is_scratch (cell x) ≡ false) (call other : Caller) (h : CallsFollow call other) (n : ℕ) where
  -- the value of a test, which is set
  by_value : (R : Cells → Cells → Type 0) (x : ℕ) (a : Cells) (w : World) (f : ℕ → Outcome Cells) (p : Outcome Cells) → ((v : ℕ) → a (cell x) ≡ Some v → Follows R (f v) p) → Follows R (with_value (or_unset (a (cell x))) w f) p
  by_value R x a w f p k = at (a (cell x)) refl
    where
      at : (o : Option ℕ) → a (cell x) ≡ o → Follows R (with_value (or_unset o) w f) p
      at None e = owes_nothing
      at (Some v) e = k v e

  by_test_value : (R : Cells → Cells → Type 0) (x : ℕ) (a : Cells) (w : World) (f : ℕ → Outcome Cells) (K : Cells → World → Outcome Cells) (p : Outcome Cells) → ((v : ℕ) → a (cell x) ≡ Some v → Follows R (then_do (f v) K) p)
      → Follows R (then_do (with_value (or_unset (a (cell x))) w f) K) p
  by_test_value R x a w f K p k = at (a (cell x)) refl
    where
      at : (o : Option ℕ) → a (cell x) ≡ o → Follows R (then_do (with_value (or_unset o) w f) K) p
      at None e = owes_nothing
      at (Some v) e = k v e

  pub follows_spill : (c : Code ℕ) (R : Cells → Cells → Type 0) (os : List ℕ) (rest : Code Place) (a b : Cells) (w : World) (K L : Cells → World → Outcome Cells) → Holds a b
      → ((a' b' : Cells) (u : World) → Holds a' b' → Follows R (K a' u) (then_do (run_with own other n (drop (length (sites c)) os) rest b' u) L))
      → Follows R (then_do (run_with cell call n os c a w) K) (then_do (run_with own other n os (spill cell c rest) b w) L)
  follows_spill (Plain o xs ys) R os rest a b w K L g k = plain_follows cell fit call other h n R os rest K L k o xs ys a b w g
  follows_spill (Reserve m y d) R os rest a b w K L g k =
      let base = block_at w.stack os in
      let X = put_back FIRST_SCRATCH_REGISTER (cell y) (spill cell d Nothing) in
      let a1 = put (cell y) (Some base) a in
      let w1 = owned base m w in
      let all : sites X ≡ sites d = put_back_sites FIRST_SCRATCH_REGISTER (cell y) (spill cell d Nothing) ∙ block_sites cell d in
      after_body R K (run_with own other n (drop (length (m ∷ sites X)) os) rest) L (disowned base m)
      (bare Holds (run_with cell call n (drop 1 os) d a1 w1) (run_with own other n (drop 1 os) X (put (in_register FIRST_SCRATCH_REGISTER (cell y)) (Some base) b) w1)
      (put_back_follows other n Holds Goes _ (drop 1 os) FIRST_SCRATCH_REGISTER (cell y) (spill cell d Nothing) a b w1 base (omega arith) g (λ b2 g2.
      follows_spill d Holds (drop 1 os) Nothing a1 b2 w1 Goes Goes g2 (λ a' b' u g'. both_go g'))))
      (λ a' b' u g'. subst (λ (l : List ℕ). Follows R (K a' (disowned base m u)) (then_do (run_with own other n (drop (length (m ∷ l)) os) rest b' (disowned base m u)) L)) (sym all) (k a' b' (disowned base m u) g'))
  follows_spill (Branch x d e) R os rest a b w K L g k =
      let D = spill cell d Nothing in
      let E = spill cell e Nothing in
      let q = in_register FIRST_SCRATCH_REGISTER (cell x) in
      let G = run_with own other n (drop (length (sites D ++ sites E)) os) rest in
      let all : sites D ++ sites E ≡ sites d ++ sites e = ap (λ l. l ++ sites E) (block_sites cell d) ∙ ap (λ l. sites d ++ l) (block_sites cell e) in
      by_test_value R x a w (λ v. at_zero v (run_with cell call n (drop (length (sites d)) os) e a w) (run_with cell call n os d a w)) K _ (λ v is.
      got_follows other n R L _ os FIRST_SCRATCH_REGISTER (cell x) (Sequence (Branch q D E) rest) a b w v (omega arith) (fit x) g is (λ b' g' has keeps.
      subst (λ r. Follows R (then_do (at_zero v (run_with cell call n (drop (length (sites d)) os) e a w) (run_with cell call n os d a w)) K)
      (then_do (then_do (with_value (or_unset r) w (λ v. at_zero v (run_with own other n (drop (length (sites D)) os) E b' w) (run_with own other n os D b' w))) G) L)) (sym has)
      (after_blocks R K G L
      (zero_follows Holds v _ _ _ _
      (subst (λ (l : List ℕ). Follows Holds (run_with cell call n (drop (length (sites d)) os) e a w) (run_with own other n (drop (length l) os) E b' w)) (sym (block_sites cell d))
      (bare Holds _ _ (follows_spill e Holds (drop (length (sites d)) os) Nothing a b' w Goes Goes g' (λ a'' b'' u g''. both_go g''))))
      (bare Holds _ _ (follows_spill d Holds os Nothing a b' w Goes Goes g' (λ a'' b'' u g''. both_go g''))))
      (λ a'' b'' u g''. subst (λ (l : List ℕ). Follows R (K a'' u) (then_do (run_with own other n (drop (length l) os) rest b'' u) L)) (sym all) (k a'' b'' u g'')))))
  follows_spill (Loop d x e) R os rest a b w K L g k =
      let D = spill cell d (got FIRST_SCRATCH_REGISTER (cell x) Nothing) in
      let E = spill cell e Nothing in
      let q = in_register FIRST_SCRATCH_REGISTER (cell x) in
      let G = run_with own other n (drop (length (sites D ++ sites E)) os) rest in
      let first_all : sites D ≡ sites d = head_sites cell d x in
      let all : sites D ++ sites E ≡ sites d ++ sites e = ap (λ l. l ++ sites E) first_all ∙ ap (λ l. sites d ++ l) (block_sites cell e) in
      after_blocks R K G L
      (loop_follows (λ c. c (cell x)) (λ c. c q) (run_with cell call n os d) (run_with own other n os D) (run_with cell call n (drop (length (sites d)) os) e) (run_with own other n (drop (length (sites D)) os) E)
      (λ K' L' a1 b1 w1 g1 k1.
      follows_spill d Holds os (got FIRST_SCRATCH_REGISTER (cell x) Nothing) a1 b1 w1 (λ c u. with_value (or_unset (c (cell x))) u (λ v. K' v c u)) (λ c u. with_value (or_unset (c q)) u (λ v. L' v c u)) g1 (λ a' b' u g'.
      by_value Holds x a' u (λ v. K' v a' u) _ (λ v is.
      got_follows other n Holds (λ c u'. with_value (or_unset (c q)) u' (λ v. L' v c u')) _ (drop (length (sites d)) os) FIRST_SCRATCH_REGISTER (cell x) Nothing a' b' u v (omega arith) (fit x) g' is (λ b'' g'' has keeps.
      subst (λ r. Follows Holds (K' v a' u) (with_value (or_unset r) u (λ v. L' v b'' u))) (sym has) (k1 a' b'' u v g'')))))
      (λ a1 b1 w1 g1. subst (λ (l : List ℕ). Follows Holds (run_with cell call n (drop (length (sites d)) os) e a1 w1) (run_with own other n (drop (length l) os) E b1 w1)) (sym first_all)
      (bare Holds _ _ (follows_spill e Holds (drop (length (sites d)) os) Nothing a1 b1 w1 Goes Goes g1 (λ a'' b'' u g''. both_go g''))))
      n a b w g)
      (λ a'' b'' u g''. subst (λ (l : List ℕ). Follows R (K a'' u) (then_do (run_with own other n (drop (length l) os) rest b'' u) L)) (sym all) (k a'' b'' u g''))
  follows_spill Nothing R os rest a b w K L g k = k a b w g
  follows_spill (Sequence c d) R os rest a b w K L g k =
      regroup R _ (run_with cell call n os c a w) (run_with cell call n (drop (length (sites c)) os) d) K
      (follows_spill c R os (spill cell d rest) a b w (λ a' u. then_do (run_with cell call n (drop (length (sites c)) os) d a' u) K) L g (λ a' b' u g'.
      follows_spill d R (drop (length (sites c)) os) rest a' b' u K L g' (λ a'' b'' u' g''.
      subst (λ q. Follows R (K a'' u') (then_do (run_with own other n q rest b'' u') L)) (sym (drop_both (sites c) (sites d) os)) (k a'' b'' u' g''))))

-- ---- functions

-- one function, with its variables in their places and in placed code
data Found : Option (Callable ℕ) → Option (Callable Place) → Type 0 where
  neither : Found None None
  both : (f : Routine ℕ) (frame : FrameLayout) (l : List Place) → ((x : ℕ) → is_scratch (place_of l x) ≡ false) → Found (Some (callable f (place_of l) frame)) (Some (callable (spilled f l) own frame))

below_scratch : (r : ℕ) → r < FIRST_SCRATCH_REGISTER → (b : Bool) → nat_le FIRST_SCRATCH_REGISTER r ≡ b → nat_le FIRST_SCRATCH_REGISTER r ≡ false
below_scratch r lt true e = let le : FIRST_SCRATCH_REGISTER ≤ r = leb-true FIRST_SCRATCH_REGISTER r e in let no : FIRST_SCRATCH_REGISTER ≤ r → ⊥ = λ k. omega arith in absurd (no le)
below_scratch r lt false e = e

no_scratch : (n : ℕ) (p : Place) → MayHold n p → is_scratch p ≡ false
no_scratch n (Register r) h = below_scratch r (omega (arith, h.1)) (nat_le FIRST_SCRATCH_REGISTER r) refl
no_scratch n (Slot i) h = refl

places_fit : (n : ℕ) (places : List Place) → AllByRecursion (MayHold n) places → (x : ℕ) → is_scratch (place_of places x) ≡ false
places_fit n [] h x = refl
places_fit n (p ∷ ps) h zero = no_scratch n p h.0
places_fit n (p ∷ ps) h (suc x) = places_fit n ps h.1 x

found : (fs : List (Routine ℕ)) (lists : List (List Place)) (frames : List FrameLayout) (k : ℕ) → AreAllAccepted fs lists
    → Found (slice_get (callables fs (located_at lists) frames) k) (slice_get (callables (all_spilled fs lists) itself frames) k)
found [] [] frames k h = neither
found [] (l ∷ ls) frames k h = absurd h
found (f ∷ fs) [] frames k h = absurd h
found (f ∷ fs) (l ∷ ls) [] k h = neither
found (f ∷ fs) (l ∷ ls) (frame ∷ frames) zero h = both f frame l (places_fit f.variables l (by_elements (MayHold f.variables) l h.0.good))
found (f ∷ fs) (l ∷ ls) (frame ∷ frames) (suc k) h = found fs ls frames k h.1

enter_follows : (call other : Caller) → CallsFollow call other → (n : ℕ) {o : Option (Callable ℕ)} {q : Option (Callable Place)} → Found o q → (vs : List ℕ) (w : World)
    → Follows Same (enter o (λ g. run_with g.cell call n g.offsets g.body) vs w) (enter q (λ g. run_with g.cell other n g.offsets g.body) vs w)
enter_follows call other h n neither vs w = both_stop
enter_follows call other h n (both f frame l fit) vs w =
    let cell = place_of l in
    spend_follows Same w.fuel w _ _ (λ u.
    let t : World = record u { stack = w.stack - frame.size } in
    let g : Holds (set_all cell f.params vs no_cells) (set_all own (map cell f.params) vs no_cells) = holds_set_all cell f.params vs no_cells no_cells (record { at = λ p q v e. cc }) in
    then_follows Holds Same _ _
    (bare Holds _ _ (follows_spill cell fit call other h n f.body Holds frame.sites Nothing (set_all cell f.params vs no_cells) (set_all own (map cell f.params) vs no_cells) t Goes Goes g (λ a b u' g'. both_go g')))
    (λ a b t' g'. value_follows Same (values cell f.results a) (values own (map cell f.results) b) t' _ _ (values_hold cell fit f.results a b g') (λ rs e. both_go refl)))

calls_follow : (p : List (Callable ℕ)) (q : List (Callable Place)) → ((k : ℕ) → Found (slice_get p k) (slice_get q k)) → (n : ℕ) → CallsFollow (calls p n) (calls q n)
calls_follow p q h zero f vs w = both_stop
calls_follow p q h (suc n) f vs w = enter_follows (calls p n) (calls q n) (calls_follow p q h n) n (h f) vs w

-- ---- whole programs

pub spilled_has_located_runs : (p : Executable ℕ) (lists : List (List Place)) → AreAllAccepted p.routines lists → HasLocatedRuns lists p (spilled_executable p lists)
spilled_has_located_runs p lists h layout fuel replies =
    let all = calls_follow (callables p.routines (located_at lists) layout.frames) (callables (all_spilled p.routines lists) itself layout.frames) (λ k. found p.routines lists layout.frames k h) (suc fuel) in
    end_alike Same _ _ (all p.init [] (start fuel replies)) (λ w. ever_alike fuel _ _ w (λ u. all p.again [] u))
