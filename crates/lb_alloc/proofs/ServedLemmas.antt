-- The places of a program, function by function.
use Rattle.std.proofs.Common.{◌≡◌, ℕ, zero, suc, ◌+◌, ◌<◌, ◌≤◌, List, [], ◌∷◌, ◌++◌, length, get_or, take, map, All, Some, sym, subst, arith, not-suc-le-zero, le_of_suc-le-suc, slice_get}
use Rattle.std.proofs.lemmas.List.{take_all}
use Rattle.lb_flat.specs.declared.places.Place.{Place}
use Rattle.lb_flat.specs.declared.places.FunctionPlaces.{FunctionPlaces}
use Rattle.lb_flat.specs.declared.flat.FlatFunction.{FlatFunction}
use Rattle.lb_flat.specs.Code.{Routine}
use Rattle.lb_flat.specs.Flat.{flat_routine}
use Rattle.lb_flat.specs.Located.{places_at}
use Rattle.lb_flat.specs.Order.{IsInRegister}
use Rattle.lb_flat.specs.Accepted.{AreAllAccepted}
use Rattle.lb_alloc.specs.InternalOwn.{IsServed, AreServed}

abbrev pub lists : List FunctionPlaces → List (List Place)
lists = map (λ (p : FunctionPlaces). p.places)

-- one function more
more_served : (fs : List FlatFunction) (i : ℕ) (ps : List FunctionPlaces) (f : FlatFunction) (p : FunctionPlaces) → i < length fs → f ≡ get_or fs i f
    → AreServed (take i fs) ps → IsServed f p.places → AreServed (take (suc i) fs) (ps ++ p ∷ [])
more_served [] i ps f p lt is h k = absurd (not-suc-le-zero lt)
more_served (g ∷ fs) zero [] f p lt is h k = (subst (λ (e : FlatFunction). IsServed e p.places) is k, tt)
more_served (g ∷ fs) zero (q ∷ ps) f p lt is h k = absurd h
more_served (g ∷ fs) (suc i) [] f p lt is h k = absurd h
more_served (g ∷ fs) (suc i) (q ∷ ps) f p lt is h k = (h.0, more_served fs i ps f p (le_of_suc-le-suc lt) is h.1 k)

pub next_served : (fs : List FlatFunction) (i : ℕ) (ps : List FunctionPlaces) (f : FlatFunction) (p : FunctionPlaces) → i < length fs → f ≡ get_or fs i f
    → AreServed (take i fs) ps → IsServed f p.places → AreServed (take (i + 1) fs) (ps ++ p ∷ [])
next_served fs i ps f p lt is h k = let e : suc i ≡ i + 1 = omega arith in subst (λ (j : ℕ). AreServed (take j fs) (ps ++ p ∷ [])) e (more_served fs i ps f p lt is h k)

pub all_served : (fs : List FlatFunction) (i : ℕ) (ps : List FunctionPlaces) → length fs ≤ i → AreServed (take i fs) ps → AreServed fs ps
all_served fs i ps le h = subst (λ (gs : List FlatFunction). AreServed gs ps) (take_all i fs le) h

pub served_accepted : (fs : List FlatFunction) (ps : List FunctionPlaces) → AreServed fs ps → AreAllAccepted (map flat_routine fs) (lists ps)
served_accepted [] [] h = tt
served_accepted [] (p ∷ ps) h = absurd h
served_accepted (f ∷ fs) [] h = absurd h
served_accepted (f ∷ fs) (p ∷ ps) h = (h.0.accepted, served_accepted fs ps h.1)

pub served_registers : (fs : List FlatFunction) (ps : List FunctionPlaces) → AreServed fs ps
    → (k : ℕ) (g : Routine ℕ) → slice_get (map flat_routine fs) k ≡ Some g → g.variables ≤ 8 → All IsInRegister (places_at (lists ps) k)
served_registers [] ps h k g e few = cc
served_registers (f ∷ fs) [] h k g e few = absurd h
served_registers (f ∷ fs) (p ∷ ps) h zero g e few = h.0.registers (subst (λ (r : Routine ℕ). r.variables ≤ 8) (sym (found e)) few)
  where
    found : Some (flat_routine f) ≡ Some g → flat_routine f ≡ g
    found same = cc
served_registers (f ∷ fs) (p ∷ ps) h (suc k) g e few = served_registers fs ps h.1 k g e few
