-- What every move keeps, a run keeps.
use Rattle.std.proofs.Common.{◌≡◌, ◌≤◌, ℕ, zero, suc, ◌-◌, List, Option, Some, None, refl, sym, subst}
use Rattle.std.specs.Option.{option_map_or}
use Rattle.lb_trace.specs.Prefix.{IsPrefix}
use Rattle.lb_trace.proofs.PrefixLemmas.{IsPrefix-refl, IsPrefix-trans}
use Rattle.lb_steps.specs.Runs.{run, OnlyExtends}
use Rattle.lb_steps.proofs.RunLemmas.{run-longer}

kept_after_first : {S : Type 0} (move : S → Option S) (P : S → Type 0) (n : ℕ) (s : S) (o : Option S) → move s ≡ o
    → ((s t : S) → move s ≡ Some t → P s → P t) → ((t : S) → P t → P (run move n t)) → P s → P (option_map_or (run move n) o s)
kept_after_first move P n s None h keeps go p = p
kept_after_first move P n s (Some t) h keeps go p = go t (keeps s t h p)

-- an invariant of every move is one of every run
pub run-keeps : {S : Type 0} (move : S → Option S) (P : S → Type 0) → ((s t : S) → move s ≡ Some t → P s → P t)
    → (n : ℕ) (s : S) → P s → P (run move n s)
run-keeps move P keeps zero s p = p
run-keeps move P keeps (suc n) s p = kept_after_first move P n s (move s) refl keeps (run-keeps move P keeps n) p

-- a run extends the trace that it began with
pub run-extends : {S E : Type 0} (move : S → Option S) (trace : S → List E) → OnlyExtends move trace
    → (n : ℕ) (s : S) → IsPrefix (trace s) (trace (run move n s))
run-extends move trace grows n s =
    run-keeps move (λ t. IsPrefix (trace s) (trace t)) (λ t u h p. IsPrefix-trans p (grows t u h)) n s (IsPrefix-refl (trace s))

-- a longer run's trace begins with the shorter's
pub run-longer_extends : {S E : Type 0} (move : S → Option S) (trace : S → List E) → OnlyExtends move trace
    → (m n : ℕ) (s : S) → m ≤ n → IsPrefix (trace (run move m s)) (trace (run move n s))
run-longer_extends move trace grows m n s h =
    subst (λ t. IsPrefix (trace (run move m s)) (trace t)) (sym (run-longer move m n s h)) (run-extends move trace grows (n - m) (run move m s))
