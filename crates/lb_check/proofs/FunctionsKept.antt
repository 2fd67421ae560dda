-- A function keeps a rule where its list of faults is empty.
use Rattle.std.proofs.Common.{◌≡◌, ◌+◌, ◌≤◌, nat_lt, Bool, true, false, not, ◌&&◌, ◌||◌, ◌==◌, ◌⊎◌, inl, inr, List, [], ◌∷◌, ◌++◌, length, refl, sym, ap, ◌∙◌, arith}
use Rattle.std.specs.Prelude.{codes, if◌then◌else◌}
use Rattle.std.specs.Str.{bytes_eq}
use Rattle.lb_syntax.specs.declared.limits.TheConstants.{MOST_FRAME, MOST_PARAMS, MOST_RESULTS}
use Rattle.lb_syntax.specs.Names.{Text, AreDistinct}
use Rattle.lb_syntax.proofs.DistinctLemmas.{bytes_eq-same}
use Rattle.lb_syntax.specs.Tree.{Procedure}
use Rattle.lb_syntax.specs.Needs.{frame_need}
use Rattle.lb_syntax.specs.Rules.{HasEntryShape}
use Rattle.lb_check.specs.declared.fault.CheckFault.{CheckFault}
use Rattle.lb_check.specs.declared.fault.CheckFault.TheVariants.{DuplicateName, EntryShape, TooManyParams, FrameNeed}
use Rattle.lb_check.specs.declared.rule.FunctionRule.TheVariants as of_function
use Rattle.lb_check.specs.Order.{repeated}
use Rattle.lb_check.specs.Faults.{where_true, is_entry, function_faults}
use Rattle.lb_check.proofs.NoFaults.{where_none, none_where, over, within, same_number, number_same, both_none, none_both}
use Rattle.lb_check.proofs.NamesKept.{distinct_kept, kept_distinct, map_none, none_map}

-- a name that is called from outside
entry_is : (name : Text) → (name ≡ codes "init") ⊎ (name ≡ codes "loop") → is_entry name ≡ true
entry_is name (inl e) = ap (λ (x : Text). is_entry x) e
entry_is name (inr e) = ap (λ (x : Text). is_entry x) e

entry_cases : (b : Bool) (name : Text) → b ≡ bytes_eq name (codes "init") → (b || bytes_eq name (codes "loop")) ≡ true → (name ≡ codes "init") ⊎ (name ≡ codes "loop")
entry_cases true name e h = inl (bytes_eq-same name (codes "init") (sym e))
entry_cases false name e h = inr (bytes_eq-same name (codes "loop") h)

nothing_in : {A : Type 0} (xs : List A) → length xs ≡ 0 → xs ≡ []
nothing_in [] h = refl
nothing_in (x ∷ xs) h = absurd (omega arith)

entry_step : (entry empty : Bool) → (entry && not empty) ≡ false → entry ≡ true → empty ≡ true
entry_step true true h e = refl
entry_step true false h e = cc
entry_step false empty h e = cc

step_entry : (entry empty : Bool) → (entry ≡ true → empty ≡ true) → (entry && not empty) ≡ false
step_entry true true h = refl
step_entry true false h = let e = h refl in cc
step_entry false empty h = refl

pub entry_kept : (f : Procedure) → function_faults of_function.Entry f ≡ [] → HasEntryShape f
entry_kept f h e =
    let none = where_none (is_entry f.name && not (length f.params + length f.results == 0)) (EntryShape f.name) h in
    let passed = same_number (length f.params + length f.results) 0 (entry_step (is_entry f.name) (length f.params + length f.results == 0) none (entry_is f.name e)) in
    (nothing_in f.params (omega (arith, passed)), nothing_in f.results (omega (arith, passed)))

pub kept_entry : (f : Procedure) → HasEntryShape f → function_faults of_function.Entry f ≡ []
kept_entry f h =
    none_where (is_entry f.name && not (length f.params + length f.results == 0)) (EntryShape f.name)
    (step_entry (is_entry f.name) (length f.params + length f.results == 0) (λ e.
    let both = h (entry_cases (bytes_eq f.name (codes "init")) f.name refl e) in
    number_same (length f.params + length f.results) 0 (ap (λ (xs : List Text). length xs + length f.results) both.0 ∙ ap (λ (xs : List Text). 0 + length xs) both.1)))

pub names_kept : (f : Procedure) → function_faults of_function.Names f ≡ [] → AreDistinct f.params × AreDistinct f.results
names_kept f h =
    let both = both_none (repeated f.params) (repeated f.results) (map_none (λ x. DuplicateName f.name x) (repeated f.params ++ repeated f.results) h) in
    (distinct_kept f.params both.0, distinct_kept f.results both.1)

pub kept_names : (f : Procedure) → AreDistinct f.params → AreDistinct f.results → function_faults of_function.Names f ≡ []
kept_names f d e =
    none_map (λ x. DuplicateName f.name x) (repeated f.params ++ repeated f.results)
    (none_both (repeated f.params) (repeated f.results) (kept_distinct f.params d) (kept_distinct f.results e))

counts_step : (a b : Bool) (x y : CheckFault) → (if a then x ∷ [] else where_true b y) ≡ [] → (a ≡ false) × (b ≡ false)
counts_step true b x y h = absurd (cc)
counts_step false b x y h = (refl, where_none b y h)

step_counts : (a b : Bool) (x y : CheckFault) → a ≡ false → b ≡ false → (if a then x ∷ [] else where_true b y) ≡ []
step_counts true b x y h k = cc
step_counts false b x y h k = none_where b y k

pub counts_kept : (f : Procedure) → function_faults of_function.Counts f ≡ [] → (length f.params ≤ MOST_PARAMS) × (length f.results ≤ MOST_RESULTS)
counts_kept f h =
    let both = counts_step (nat_lt MOST_PARAMS (length f.params)) (nat_lt MOST_RESULTS (length f.results)) (TooManyParams f.name (length f.params)) (TooManyParams f.name (length f.results)) h in
    (over MOST_PARAMS (length f.params) both.0, over MOST_RESULTS (length f.results) both.1)

pub kept_counts : (f : Procedure) → length f.params ≤ MOST_PARAMS → length f.results ≤ MOST_RESULTS → function_faults of_function.Counts f ≡ []
kept_counts f h k =
    step_counts (nat_lt MOST_PARAMS (length f.params)) (nat_lt MOST_RESULTS (length f.results)) (TooManyParams f.name (length f.params)) (TooManyParams f.name (length f.results))
    (within MOST_PARAMS (length f.params) h) (within MOST_RESULTS (length f.results) k)

pub frame_kept : (f : Procedure) → function_faults of_function.FrameNeed f ≡ [] → frame_need f ≤ MOST_FRAME
frame_kept f h = over MOST_FRAME (frame_need f) (where_none (nat_lt MOST_FRAME (frame_need f)) (FrameNeed f.name (frame_need f)) h)

pub kept_frame : (f : Procedure) → frame_need f ≤ MOST_FRAME → function_faults of_function.FrameNeed f ≡ []
kept_frame f h = none_where (nat_lt MOST_FRAME (frame_need f)) (FrameNeed f.name (frame_need f)) (within MOST_FRAME (frame_need f) h)
