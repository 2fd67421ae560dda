-- Acceptance on walks, told by recursion on the tree, and what it keeps.
use Rattle.std.proofs.Common.{◌≡◌, ◌≢◌, ◌↔◌, ℕ, zero, suc, Bool, true, List, [], ◌∷◌, length, map, All, Some, None, Result, Ok, Err, IfOk, IsTrue, refl, sym, ap, ◌∙◌, subst, slice_get}
use Rattle.lb_source.specs.declared.ends.Reason.{Reason}
use Rattle.lb_flat.specs.declared.places.Place.{Place}
use Rattle.lb_flat.specs.declared.places.FunctionPlaces.{FunctionPlaces}
use Rattle.lb_flat.specs.declared.places.Places.{Places}
use Rattle.lb_flat.specs.declared.flat.FlatFunction.{FlatFunction}
use Rattle.lb_flat.specs.declared.flat.FlatProgram.{FlatProgram}
use Rattle.lb_flat.specs.Code.{Call, Routine}
use Rattle.lb_flat.specs.Flat.{flat_routine, flat_executable}
use Rattle.lb_flat.specs.Cells.{Cells, put, set_all}
use Rattle.lb_flat.specs.Run.{World, Outcome, Goes, Stops, Caller, then_do, with_value, values, effect}
use Rattle.lb_flat.specs.Located.{place_of, lists_of, located_at}
use Rattle.lb_flat.specs.Walks.{step, among}
use Rattle.lb_flat.specs.Accepted.{MayHold, KeepsApart, AreAccepted, AreAllAccepted}
use Rattle.lb_flat.specs.Liveness.{IsApartIn}
use Rattle.lb_flat.proofs.PutLemmas.{put_other}
use Rattle.lb_flat.proofs.HeldLemmas.{first_among, rest_among}
use Rattle.lb_flat.proofs.ApartLemmas.{keeps_apart, apart_in}
use Rattle.lb_flat.proofs.Keep.{accepted_places_keep}
use Rattle.lb_alloc.specs.Keeping.{IsAccepted, KeepsRuns, KeepsInRoutine, KeepsAcrossCalls}

pub accepted_as : {E : Type 0} (f : Routine ℕ) (places : List Place) (r : Result Bool E) → length places ≡ f.variables → All (MayHold f.variables) places
    → IfOk r (λ yes. IsTrue yes ↔ ((x : ℕ) → IsApartIn (place_of places) f x)) → IfOk r (λ yes. IsTrue yes ↔ AreAccepted f places)
accepted_as f places (Ok b) each good h =
    (λ e. record { each = each; good = good; apart = keeps_apart (place_of places) f (h.0 e) }, λ a. h.1 (apart_in (place_of places) f a.apart))
accepted_as f places (Err e) each good h = tt

pub as_many : (fs : List FlatFunction) (ps : List FunctionPlaces) → AreAllAccepted (map flat_routine fs) (map (λ (p : FunctionPlaces). p.places) ps) → length fs ≡ length ps
as_many [] [] h = refl
as_many [] (p ∷ ps) h = absurd h
as_many (f ∷ fs) [] h = absurd h
as_many (f ∷ fs) (p ∷ ps) h = ap suc (as_many fs ps h.1)

-- ---- what lives across calls

-- settings elsewhere leave a cell as it was
set_elsewhere : (place : ℕ → Place) (q : Place) (ys vs : List ℕ) (cells : Cells) → ((u : ℕ) → among ys u ≡ true → place u ≢ q) → set_all place ys vs cells q ≡ cells q
set_elsewhere place q [] vs cells h = refl
set_elsewhere place q (y ∷ ys) [] cells h =
    set_elsewhere place q ys [] (put (place y) None cells) (λ u m. h u (rest_among y ys u m)) ∙ put_other (place y) q None cells (h y (first_among y ys))
set_elsewhere place q (y ∷ ys) (v ∷ vs) cells h =
    set_elsewhere place q ys vs (put (place y) (Some v) cells) (λ u m. h u (rest_among y ys u m)) ∙ put_other (place y) q (Some v) cells (h y (first_among y ys))

-- the cells after a run that goes on
cells_after : {c d : Cells} {w u : World} → Goes c w ≡ Goes d u → c ≡ d
cells_after e = cc

module _ (place : ℕ → Place) (ys : List ℕ) (q : Place) (h : (u : ℕ) → among ys u ≡ true → place u ≢ q) (before after : Cells) (w u : World) where
  returned : (o : Outcome (List ℕ)) → then_do o (λ rs t. Goes (set_all place ys rs before) t) ≡ Goes after u → after q ≡ before q
  returned (Goes rs t) e = ap (λ (c : Cells). c q) (sym (cells_after e)) ∙ set_elsewhere place q ys rs before h
  returned (Stops t end) e = cc

  called : (call : Caller) (g : ℕ) (r : Result (List ℕ) Reason)
      → with_value r w (λ vs. then_do (effect call (Call g) vs w) (λ rs t. Goes (set_all place ys rs before) t)) ≡ Goes after u → after q ≡ before q
  called call g (Ok vs) e = returned (call g vs w) e
  called call g (Err reason) e = cc

across : (place : ℕ → Place) (f : Routine ℕ) → KeepsApart place f → KeepsInRoutine place f
across place f h past future xs ys x walk l other =
    let apart : (t : ℕ) → IsTrue (among ys t) → place t ≢ place x =
    λ t m. h past future (step xs ys) t x walk m l (λ e. other (subst (λ (z : ℕ). IsTrue (among ys z)) e m)) in
    record {
      apart = apart;
      value = λ call g n offsets before after w u e. called place ys (place x) apart before after w u call g (values place xs before) e;
    }

pub all_across : (fs : List (Routine ℕ)) (lists : List (List Place)) → AreAllAccepted fs lists
    → (k : ℕ) (f : Routine ℕ) → slice_get fs k ≡ Some f → KeepsInRoutine (located_at lists k) f
all_across [] [] h k f e = cc
all_across [] (l ∷ ls) h k f e = absurd h
all_across (g ∷ fs) [] h k f e = absurd h
all_across (g ∷ fs) (l ∷ ls) h zero f e = subst (λ (r : Routine ℕ). KeepsInRoutine (place_of l) r) (found e) (across (place_of l) g h.0.apart)
  where
    found : Some g ≡ Some f → g ≡ f
    found same = cc
all_across (g ∷ fs) (l ∷ ls) h (suc k) f e = all_across fs ls h.1 k f e

-- ---- a yes

pub yes_keeps : {E : Type 0} (flat : FlatProgram) (places : Places) (r : Result Bool E) → IfOk r (λ yes. IsTrue yes ↔ IsAccepted flat places)
    → IfOk r (λ yes. IsTrue yes → KeepsRuns flat places)
yes_keeps flat places (Ok b) h = λ e layout fuel replies defined. accepted_places_keep (flat_executable flat) (lists_of places) layout fuel replies (h.0 e) defined
yes_keeps flat places (Err e) h = tt

pub yes_across : {E : Type 0} (flat : FlatProgram) (places : Places) (r : Result Bool E) → IfOk r (λ yes. IsTrue yes ↔ IsAccepted flat places)
    → IfOk r (λ yes. IsTrue yes → KeepsAcrossCalls flat places)
yes_across flat places (Ok b) h = λ e. all_across (flat_executable flat).routines (lists_of places) (h.0 e)
yes_across flat places (Err e) h = tt
