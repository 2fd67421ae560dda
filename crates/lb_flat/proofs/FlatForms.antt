-- The flat form of a program that keeps the rules does what the program does.
use Rattle.std.proofs.Common.{◌≡◌, ℕ, zero, suc, ◌<◌, Bool, true, false, ◌||◌, List, [], ◌∷◌, ◌++◌, map, length, Some, refl, sym, ap, ◌∙◌, arith, slice_get, All, Contains, inl, inr}
use Rattle.std.specs.Prelude.{if◌then◌else◌, codes}
use Rattle.std.specs.List.{AllByRecursion}
use Rattle.std.specs.Str.{bytes_eq}
use Rattle.std.proofs.lemmas.List.Elements.{All-head, All-tail}
use Rattle.std.proofs.lemmas.Slice.Eq.{bytes_eq-Decides}
use Rattle.lb_syntax.specs.Names.{Text, is_among}
use Rattle.lb_syntax.specs.Tree.{Procedure}
use Rattle.lb_syntax.specs.Needs.{command_names, procedure_names}
use Rattle.lb_syntax.specs.Calls.{CallSite, call_sites, access_sites}
use Rattle.lb_syntax.specs.Rules.{IsGoodCall, IsGoodAccess, Fits, KeepsFunctionRules, IsEntry, KeepsRules, function_names}
use Rattle.lb_syntax.specs.declared.layout.FrameLayout.{FrameLayout}
use Rattle.lb_syntax.proofs.DistinctLemmas.{bytes_eq-same, bytes_eq-refl}
use Rattle.lb_source.specs.Defined.{IsDefined}
use Rattle.lb_source.specs.declared.ends.SourceRun.{SourceRun}
use Rattle.lb_source.specs.Run as source
use Rattle.lb_source.specs.Run.{State}
use Rattle.lb_source.specs.Source as source_whole
use Rattle.lb_flat.specs.Cells.{Cells, no_cells}
use Rattle.lb_flat.specs.Code.{Routine, Executable}
use Rattle.lb_flat.specs.Run.{World, Outcome, Goes, Stops, Callable, then_do, calls}
use Rattle.lb_flat.specs.Whole.{callable, callables, own_slot, to_end, for_ever, whole, start}
use Rattle.lb_flat.specs.Flattened.{HasSameRuns, place_in}
use Rattle.lb_flat.specs.InternalFlatForms.{AreNamesOf, IsFlatForm, AreFlatForms, IsFlattened}
use Rattle.lb_flat.proofs.BooleanLemmas.{or_left, or_right}
use Rattle.lb_flat.proofs.SourceFollow.{world_of, FollowsSource, both_go, both_stop, owes_nothing}
use Rattle.lb_flat.proofs.FlatTerms.{AreNumbered, Holds, all_left, all_right}
use Rattle.lb_flat.proofs.FlatCommands.{Arities, HasArity, IsNumbering}
use Rattle.lb_flat.proofs.FlatCalls.{IsFlatOf, FoundAlike, neither, both, calls_alike}

-- ---- elements

pub by_elements : {X : Type 0} (P : X → Type 0) (xs : List X) → All P xs → AllByRecursion P xs
by_elements P [] h = tt
by_elements P (x ∷ xs) h = (All-head P x xs h, by_elements P xs (All-tail P x xs h))

pub weaken : {X : Type 0} (P Q : X → Type 0) (xs : List X) → ((x : X) → P x → Q x) → AllByRecursion P xs → AllByRecursion Q xs
weaken P Q [] k h = tt
weaken P Q (x ∷ xs) k h = (k x h.0, weaken P Q xs k h.1)

-- ---- names and their places

-- each name is among its list
among_itself : (xs : List Text) → AllByRecursion (λ x. is_among xs x ≡ true) xs
among_itself [] = tt
among_itself (x ∷ xs) = (
  or_left (bytes_eq x x) (is_among xs x) (bytes_eq-refl x),
  weaken (λ y. is_among xs y ≡ true) (λ y. is_among (x ∷ xs) y ≡ true) xs (λ y m. or_right (bytes_eq x y) (is_among xs y) m) (among_itself xs),
)

-- a name that is there has a place
among_place : (names : List Text) (x : Text) → is_among names x ≡ true → place_in names x < length names
among_place [] x m = absurd (cc)
among_place (y ∷ ys) x m = at (among_place ys x) (bytes_eq y x) m
  where
    at : (is_among ys x ≡ true → place_in ys x < length ys) → (b : Bool) → (b || is_among ys x) ≡ true → (if b then 0 else suc (place_in ys x)) < suc (length ys)
    at next true e = omega arith
    at next false e = omega (arith, next e)

-- two names of one place are one name
one_place : (names : List Text) → IsNumbering (place_in names) (length names)
one_place [] x y lx ly e = absurd (omega (arith, lx))
one_place (z ∷ zs) x y lx ly e = at (one_place zs x y) (bytes_eq z x) (bytes_eq z y) refl refl lx ly e
  where
    at : (place_in zs x < length zs → place_in zs y < length zs → place_in zs x ≡ place_in zs y → bytes_eq x y ≡ true)
        → (b c : Bool) → bytes_eq z x ≡ b → bytes_eq z y ≡ c → (if b then 0 else suc (place_in zs x)) < suc (length zs) → (if c then 0 else suc (place_in zs y)) < suc (length zs)
        → (if b then 0 else suc (place_in zs x)) ≡ (if c then 0 else suc (place_in zs y)) → bytes_eq x y ≡ true
    at next true true ex ey lx ly e = (bytes_eq-Decides x y).1 (sym (bytes_eq-same z x ex) ∙ bytes_eq-same z y ey)
    at next true false ex ey lx ly e = absurd (omega (arith, e))
    at next false true ex ey lx ly e = absurd (omega (arith, e))
    at next false false ex ey lx ly e = next (omega (arith, lx)) (omega (arith, ly)) (omega (arith, e))

-- each name of a function has a number
pub procedure_below : (f : Procedure) (names : List Text) → AreNamesOf f names → AreNumbered (place_in names) (length names) (procedure_names f)
procedure_below f names are =
    weaken (λ y. is_among (procedure_names f) y ≡ true) (λ y. place_in names y < length names) (procedure_names f) (λ y m. among_place names y (are.same y ∙ m)) (among_itself (procedure_names f))

-- ---- arities

-- a number for the first function of this name, else 0
abbrev count_of : (Procedure → ℕ) → List Procedure → Text → ℕ
count_of count [] x = 0
count_of count (f ∷ fs) x = if bytes_eq f.name x then count f else count_of count fs x

abbrev arities_of : List Procedure → Arities
arities_of p = record { params = count_of (λ f. length f.params) p; results = count_of (λ f. length f.results) p }

-- a name that is there, but isn't the first, is behind it
pub later : (x y : Text) (ys : List Text) → bytes_eq y x ≡ false → Contains (y ∷ ys) x → Contains ys x
later x y ys ne (zero, lt, e) = let same : bytes_eq y x ≡ true = (bytes_eq-Decides y x).1 e in let no : true ≡ false = sym same ∙ ne in absurd (cc)
later x y ys ne (suc k, lt, e) = (k, omega (arith, lt), e)

pub none_there : (x : Text) → Contains [] x → ⊥
none_there x c = absurd (omega (arith, c.1))

has_arity : (fs : List Procedure) (site : CallSite) → Contains (map (λ f. f.name) fs) site.function → AllByRecursion (λ f. f.name ≡ site.function → Fits site f) fs → HasArity (arities_of fs) site
has_arity [] site c h = absurd (none_there site.function c)
has_arity (f ∷ fs) site c h = at (λ there. has_arity fs site there h.1) (bytes_eq f.name site.function) refl
  where
    at : (Contains (map (λ f. f.name) fs) site.function → HasArity (arities_of fs) site) → (b : Bool) → bytes_eq f.name site.function ≡ b
        → (length site.arguments ≡ (if b then length f.params else count_of (λ f. length f.params) fs site.function))
        × (length site.targets ≡ (if b then length f.results else count_of (λ f. length f.results) fs site.function))
    at next true e = h.0 (bytes_eq-same f.name site.function e)
    at next false e = next (later site.function f.name (map (λ f. f.name) fs) e c)

count_zero : (count : Procedure → ℕ) (fs : List Procedure) (x : Text) → AllByRecursion (λ f. f.name ≡ x → count f ≡ 0) fs → count_of count fs x ≡ 0
count_zero count [] x h = refl
count_zero count (f ∷ fs) x h = at (count_zero count fs x h.1) (bytes_eq f.name x) refl
  where
    at : count_of count fs x ≡ 0 → (b : Bool) → bytes_eq f.name x ≡ b → (if b then count f else count_of count fs x) ≡ 0
    at next true e = h.0 (bytes_eq-same f.name x e)
    at next false e = next

-- ---- one function

module _ (p : List Procedure) where
  abbrev function : Text → ℕ
  function = place_in (function_names p)

  calls_suit : (sites : List CallSite) → AllByRecursion (IsGoodCall p) sites → AllByRecursion (HasArity (arities_of p)) sites
  calls_suit sites h = weaken (IsGoodCall p) (HasArity (arities_of p)) sites (λ site good. has_arity p site good.known (by_elements (λ f. f.name ≡ site.function → Fits site f) p good.fits)) h

  -- the flat form of a function that keeps the rules, under a name whose arities are its own
  form_is : (f : Procedure) (g : Routine ℕ) (frame : FrameLayout) (x : Text) → KeepsFunctionRules p f → IsFlatForm (function_names p) f g → (arities_of p).params x ≡ length f.params → (arities_of p).results x ≡ length f.results
      → IsFlatOf (arities_of p) function x (source_whole.callable f frame) (callable g (own_slot 0) frame)
  form_is f g frame x keeps form params results =
      let names = form.names in
      let below = procedure_below f names form.are_names in
      record {
        number = place_in names;
        t = length names;
        numbering = one_place names;
        params = all_left _ f.params (f.results ++ command_names f.body) below;
        results = all_left _ f.results (command_names f.body) (all_right _ f.params (f.results ++ command_names f.body) below);
        suits = record {
          names = all_right _ f.results (command_names f.body) (all_right _ f.params (f.results ++ command_names f.body) below);
          calls = calls_suit (call_sites f.body) (by_elements (IsGoodCall p) (call_sites f.body) keeps.good_calls);
          accesses = by_elements IsGoodAccess (access_sites f.body) keeps.good_accesses;
        };
        is = ap (λ (r : Routine ℕ). callable r (own_slot 0) frame) form.is;
        param_count = sym params;
        result_count = sym results;
      }

  -- a function by its name, and by the place of its name
  found : (fs : List Procedure) (gs : List (Routine ℕ)) (frames : List FrameLayout) (x : Text) → AllByRecursion (KeepsFunctionRules p) fs → AreFlatForms (function_names p) fs gs
      → (arities_of p).params x ≡ (arities_of fs).params x → (arities_of p).results x ≡ (arities_of fs).results x
      → FoundAlike (arities_of p) function x (source.callee (source_whole.callables fs frames) x) (slice_get (callables gs own_slot frames) (place_in (map (λ f. f.name) fs) x))
  found [] [] frames x keeps forms params results = neither
  found [] (g ∷ gs) frames x keeps forms params results = absurd forms
  found (f ∷ fs) [] frames x keeps forms params results = absurd forms
  found (f ∷ fs) (g ∷ gs) [] x keeps forms params results = neither
  found (f ∷ fs) (g ∷ gs) (frame ∷ frames) x keeps forms params results = at (found fs gs frames x keeps.1 forms.1) (bytes_eq f.name x) refl params results
    where
      at : ((arities_of p).params x ≡ (arities_of fs).params x → (arities_of p).results x ≡ (arities_of fs).results x
          → FoundAlike (arities_of p) function x (source.callee (source_whole.callables fs frames) x) (slice_get (callables gs own_slot frames) (place_in (map (λ f. f.name) fs) x)))
          → (b : Bool) → bytes_eq f.name x ≡ b → (arities_of p).params x ≡ (if b then length f.params else (arities_of fs).params x) → (arities_of p).results x ≡ (if b then length f.results else (arities_of fs).results x)
          → FoundAlike (arities_of p) function x (if b then Some (source_whole.callable f frame) else source.callee (source_whole.callables fs frames) x)
          (slice_get (callable g (own_slot 0) frame ∷ callables gs own_slot frames) (if b then 0 else suc (place_in (map (λ f. f.name) fs) x)))
      at next true e params results = both _ _ (form_is f g frame x keeps.0 forms.0 params results)
      at next false e params results = next params results

-- ---- whole programs

ends_alike : (R : State → Cells → Type 0) (c : Cells) (o : source.Outcome) (q : Outcome (List ℕ)) (f : State → SourceRun) (g : World → SourceRun) → FollowsSource R o (then_do q (λ rs u. Goes c u))
    → ((s : State) → IsDefined (f s).end → g (world_of s) ≡ f s) → IsDefined (source_whole.to_end o f).end → to_end q g ≡ source_whole.to_end o f
ends_alike R c o (Goes rs u) f g (both_go {s} r) k = k s
ends_alike R c o (Goes rs u) f g owes_nothing k = λ d. absurd d
ends_alike R c o (Stops t e) f g both_stop k = λ d. refl
ends_alike R c o (Stops t e) f g owes_nothing k = λ d. absurd d

module _ (ar : Arities) (function : Text → ℕ) (p : List source.Callable) (q : List (Callable ℕ)) (found : (f : Text) → FoundAlike ar function f (source.callee p f) (slice_get q (function f)))
    (init again : Text) (init_params : ar.params init ≡ 0) (init_results : ar.results init ≡ 0) (again_params : ar.params again ≡ 0) (again_results : ar.results again ≡ 0) (n : ℕ) where
  nothing : Text → ℕ
  nothing x = 0

  called : (f : Text) → ar.params f ≡ 0 → ar.results f ≡ 0 → (s : State)
      → FollowsSource (Holds nothing 0) (source_whole.call_of p n f s) (then_do (calls q (suc n) (function f) [] (world_of s)) (λ rs u. Goes no_cells u))
  called f params results s =
      calls_alike ar function p q found (suc n) nothing 0 (λ x y lx ly e. absurd (omega (arith, lx))) f [] [] s no_cells tt (sym results) (sym params) (record { at = λ x lt. absurd (omega (arith, lt)) })

  ever_alike : (m : ℕ) (s : State) → IsDefined (source_whole.for_ever m (source_whole.call_of p n again) s).end
      → for_ever m (calls q (suc n) (function again) []) (world_of s) ≡ source_whole.for_ever m (source_whole.call_of p n again) s
  ever_alike zero s = λ d. refl
  ever_alike (suc m) s = ends_alike (Holds nothing 0) no_cells _ _ _ _ (called again again_params again_results s) (λ u. ever_alike m u)

  whole_alike : (s : State) → IsDefined (source_whole.to_end (source_whole.call_of p n init s) (source_whole.for_ever n (source_whole.call_of p n again))).end
      → whole q (function init) (function again) n (world_of s) ≡ source_whole.to_end (source_whole.call_of p n init s) (source_whole.for_ever n (source_whole.call_of p n again))
  whole_alike s = ends_alike (Holds nothing 0) no_cells _ _ _ _ (called init init_params init_results s) (λ u. ever_alike n u)

-- functions that are called from outside have neither parameters nor results
no_params : (p : List Procedure) (x : Text) → ((f : Procedure) → f.name ≡ x → IsEntry f) → AllByRecursion (KeepsFunctionRules p) p → (arities_of p).params x ≡ 0
no_params p x entry keeps =
    count_zero (λ f. length f.params) p x (weaken (KeepsFunctionRules p) (λ f. f.name ≡ x → length f.params ≡ 0) p (λ f k e. ap length (k.entry (entry f e)).0) keeps)

no_results : (p : List Procedure) (x : Text) → ((f : Procedure) → f.name ≡ x → IsEntry f) → AllByRecursion (KeepsFunctionRules p) p → (arities_of p).results x ≡ 0
no_results p x entry keeps =
    count_zero (λ f. length f.results) p x (weaken (KeepsFunctionRules p) (λ f. f.name ≡ x → length f.results ≡ 0) p (λ f k e. ap length (k.entry (entry f e)).1) keeps)

pub flattened_keeps : (p : List Procedure) (q : Executable ℕ) → KeepsRules p → IsFlattened p q → HasSameRuns p q
flattened_keeps p q keeps form layout fuel replies d =
    let all = by_elements (KeepsFunctionRules p) p keeps.functions in
    let Found = found p p q.routines layout.frames in
    let same = whole_alike (arities_of p) (function p) (source_whole.callables p layout.frames) (callables q.routines own_slot layout.frames) (λ f. Found f all form.routines refl refl)
    (codes "init") (codes "loop") (no_params p (codes "init") (λ f e. inl e) all) (no_results p (codes "init") (λ f e. inl e) all)
    (no_params p (codes "loop") (λ f e. inr e) all) (no_results p (codes "loop") (λ f e. inr e) all) fuel (source_whole.start fuel replies) d in
    ap (λ i. whole (callables q.routines own_slot layout.frames) i q.again fuel (start fuel replies)) form.init
    ∙ ap (λ i. whole (callables q.routines own_slot layout.frames) (function p (codes "init")) i fuel (start fuel replies)) form.again ∙ same
