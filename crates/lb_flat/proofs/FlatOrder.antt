-- The flat form of a program that keeps the rules is in order.
use Rattle.std.proofs.Common.{◌≡◌, ℕ, zero, suc, ◌+◌, ◌*◌, ◌<◌, ◌≤◌, Bool, true, false, List, [], ◌∷◌, ◌++◌, map, length, sum, refl, sym, ap, ◌∙◌, subst, arith, slice_get, All, Contains, inl, inr, append-nil}
use Rattle.std.specs.Prelude.{if◌then◌else◌, codes, get_or}
use Rattle.std.proofs.lemmas.List.{get_or_default}
use Rattle.std.specs.List.{AllByRecursion}
use Rattle.std.specs.Str.{bytes_eq}
use Rattle.std.proofs.lemmas.List.{length-map}
use Rattle.std.proofs.lemmas.List.Elements.{All-from_recursion}
use Rattle.std.proofs.lemmas.List.Sums.{sum_by-cons}
use Rattle.lb_syntax.specs.Names.{Text}
use Rattle.lb_syntax.specs.Tree.{Procedure, Ends}
use Rattle.lb_syntax.specs.WellFormed.{IsProcedure}
use Rattle.lb_syntax.specs.Needs as source
use Rattle.lb_syntax.specs.Calls as source_calls
use Rattle.lb_syntax.specs.Calls.{CallSite, call_sites, access_sites}
use Rattle.lb_syntax.specs.Rules.{IsGoodCall, IsGoodAccess, IsBlockSize, Fits, IsEntry, KeepsFunctionRules, KeepsRules, function_names}
use Rattle.lb_syntax.specs.declared.limits.TheConstants.{MOST_FRAME}
use Rattle.lb_syntax.proofs.DistinctLemmas.{bytes_eq-same}
use Rattle.lb_flat.specs.Code.{Nothing, Routine, Executable, sites}
use Rattle.lb_flat.specs.Needs.{frame_need, flat_routine_words}
use Rattle.lb_flat.specs.Calls.{callees, callees_of, frame_of, IsCallPath, IsRecursive, path_need}
use Rattle.lb_flat.specs.Order as order
use Rattle.lb_flat.specs.Order.{KeepsRoutineRules, KeepsExecutableRules, IsVariable, IsFlatInOrder}
use Rattle.lb_flat.specs.SourceCounts.{greatest_arguments}
use Rattle.lb_flat.specs.Flattened.{place_in, AllCallPlaces, NamesByPlace}
use Rattle.lb_flat.specs.InternalFlatForms.{flat_procedure, IsFlatForm, AreFlatForms, IsFlattened}
use Rattle.lb_flat.specs.Laws.{AsksNoMore, AllAskNoMore}
use Rattle.lb_flat.proofs.FlatTerms.{AreNumbered, all_left, all_right}
use Rattle.lb_flat.proofs.FlatForms.{by_elements, weaken, later, none_there, procedure_below}
use Rattle.lb_flat.proofs.FlatSites.{block_sites}
use Rattle.lb_flat.proofs.FlatCounts.{flattened_asks_no_more}
use Rattle.lb_flat.proofs.FlatNames.{numbers_named, command_named, terms_are, command_shaped, command_callees}

-- ---- functions by the places of their names

-- a call that fits each function of its name fits the flat form at the place of the name
fits_there : (functions : List Text) (fs : List Procedure) (gs : List (Routine ℕ)) (site : CallSite) → AreFlatForms functions fs gs → Contains (map (λ f. f.name) fs) site.function
    → AllByRecursion (λ f. f.name ≡ site.function → Fits site f) fs
    → order.Fits (slice_get gs (place_in (map (λ f. f.name) fs) site.function)) (length site.arguments) (length site.targets)
fits_there functions [] gs site forms c h = absurd (none_there site.function c)
fits_there functions (f ∷ fs) [] site forms c h = absurd forms
fits_there functions (f ∷ fs) (g ∷ gs) site forms c h = at (λ there. fits_there functions fs gs site forms.1 there h.1) (bytes_eq f.name site.function) refl
  where
    same : (names : List Text) → g ≡ flat_procedure functions names f → Fits site f → (length site.arguments ≡ length g.params) × (length site.targets ≡ length g.results)
    same names is k = subst (λ (r : Routine ℕ). (length site.arguments ≡ length r.params) × (length site.targets ≡ length r.results)) (sym is)
        (k.0 ∙ sym (length-map f.params (place_in names)), k.1 ∙ sym (length-map f.results (place_in names)))

    at : (Contains (map (λ f. f.name) fs) site.function → order.Fits (slice_get gs (place_in (map (λ f. f.name) fs) site.function)) (length site.arguments) (length site.targets))
        → (b : Bool) → bytes_eq f.name site.function ≡ b → order.Fits (slice_get (g ∷ gs) (if b then 0 else suc (place_in (map (λ f. f.name) fs) site.function))) (length site.arguments) (length site.targets)
    at next true e = same forms.0.names forms.0.is (h.0 (bytes_eq-same f.name site.function e))
    at next false e = next (later site.function f.name (map (λ f. f.name) fs) e c)

-- an entry has an entry's shape
entry_there : (functions : List Text) (fs : List Procedure) (gs : List (Routine ℕ)) (x : Text) → AreFlatForms functions fs gs → Contains (map (λ f. f.name) fs) x
    → AllByRecursion (λ f. f.name ≡ x → (f.params ≡ []) × (f.results ≡ [])) fs
    → order.IsEntry (slice_get gs (place_in (map (λ f. f.name) fs) x))
entry_there functions [] gs x forms c h = absurd (none_there x c)
entry_there functions (f ∷ fs) [] x forms c h = absurd forms
entry_there functions (f ∷ fs) (g ∷ gs) x forms c h = at (λ there. entry_there functions fs gs x forms.1 there h.1) (bytes_eq f.name x) refl
  where
    same : (names : List Text) → g ≡ flat_procedure functions names f → (f.params ≡ []) × (f.results ≡ []) → (g.params ≡ []) × (g.results ≡ [])
    same names is k = subst (λ (r : Routine ℕ). (r.params ≡ []) × (r.results ≡ [])) (sym is) (ap (λ l. map (place_in names) l) k.0, ap (λ l. map (place_in names) l) k.1)

    at : (Contains (map (λ f. f.name) fs) x → order.IsEntry (slice_get gs (place_in (map (λ f. f.name) fs) x)))
        → (b : Bool) → bytes_eq f.name x ≡ b → order.IsEntry (slice_get (g ∷ gs) (if b then 0 else suc (place_in (map (λ f. f.name) fs) x)))
    at next true e = same forms.0.names forms.0.is (h.0 (bytes_eq-same f.name x e))
    at next false e = next (later x f.name (map (λ f. f.name) fs) e c)

-- ---- one function

module _ (p : List Procedure) (gs : List (Routine ℕ)) (forms : AreFlatForms (function_names p) p gs) where
  routine_keeps : (f : Procedure) (g : Routine ℕ) → KeepsFunctionRules p f → IsProcedure f → source.frame_need f ≤ MOST_FRAME → AsksNoMore f g → IsFlatForm (function_names p) f g → KeepsRoutineRules IsVariable gs g
  routine_keeps f g keeps tree small asks form = subst (λ (r : Routine ℕ). KeepsRoutineRules IsVariable gs r) (sym form.is) (record {
    params = All-from_recursion (IsVariable n) (map number f.params) (numbers_named n number f.params (wider f.params (all_left _ f.params (f.results ++ source.command_names f.body) below)));
    results = All-from_recursion (IsVariable n) (map number f.results) (numbers_named n number f.results (wider f.results (all_left _ f.results (source.command_names f.body) behind)));
    names = command_named number (place_in (function_names p)) t d a f.body Nothing (all_right _ f.results (source.command_names f.body) behind) (omega arith) (omega arith) tt;
    shapes = command_shaped gs number (place_in (function_names p)) t f.body Nothing (terms_are f.body (inr tree.body))
        (weaken (IsGoodCall p) _ (call_sites f.body) (λ site good. fits_there (function_names p) p gs site forms good.known (by_elements (λ h. h.name ≡ site.function → Fits site h) p good.fits))
        (by_elements (IsGoodCall p) (call_sites f.body) keeps.good_calls))
        (by_elements IsGoodAccess (access_sites f.body) keeps.good_accesses) tt;
    few_params = omega (arith, keeps.few_params, length-map f.params number);
    few_results = omega (arith, keeps.few_results, length-map f.results number);
    block_sizes = subst (λ (l : List ℕ). All IsBlockSize l) (sym blocks) keeps.block_sizes;
    frame = omega (arith, small, frame);
  })
    where
      number : Text → ℕ
      number = place_in form.names

      t : ℕ
      t = length form.names

      d : ℕ
      d = source.greatest_depth f.body

      a : ℕ
      a = greatest_arguments f.body

      n : ℕ
      n = t + d + a

      below : AreNumbered number t (source.procedure_names f)
      below = procedure_below f form.names form.are_names

      behind : AreNumbered number t (f.results ++ source.command_names f.body)
      behind = all_right _ f.params (f.results ++ source.command_names f.body) below

      wider : (xs : List Text) → AreNumbered number t xs → AllByRecursion (λ x. number x < n) xs
      wider xs h = weaken (λ x. number x < t) (λ x. number x < n) xs (λ x lt. omega (arith, lt)) h

      blocks : sites (flat_procedure (function_names p) form.names f).body ≡ source.sites f.body
      blocks = block_sites number (place_in (function_names p)) t f.body

      frame : frame_need (flat_procedure (function_names p) form.names f) ≤ source.frame_need f
      frame = subst (λ (r : Routine ℕ). frame_need r ≤ source.frame_need f) form.is asks.frame

  routines_keep : (fs : List Procedure) (hs : List (Routine ℕ)) → AllByRecursion (KeepsFunctionRules p) fs → AllByRecursion IsProcedure fs → AllByRecursion (λ f. source.frame_need f ≤ MOST_FRAME) fs → AllAskNoMore fs hs
      → AreFlatForms (function_names p) fs hs → AllByRecursion (KeepsRoutineRules IsVariable gs) hs
  routines_keep [] [] keeps trees small asks forms = tt
  routines_keep [] (h ∷ hs) keeps trees small asks forms = absurd forms
  routines_keep (f ∷ fs) [] keeps trees small asks forms = absurd forms
  routines_keep (f ∷ fs) (h ∷ hs) keeps trees small asks forms = (routine_keeps f h keeps.0 trees.0 small.0 asks.0 forms.0, routines_keep fs hs keeps.1 trees.1 small.1 asks.1 forms.1)

-- ---- counts of a program

as_many : (fs : List Procedure) (gs : List (Routine ℕ)) → AllAskNoMore fs gs → length gs ≡ length fs
as_many [] [] h = refl
as_many [] (g ∷ gs) h = absurd h
as_many (f ∷ fs) [] h = absurd h
as_many (f ∷ fs) (g ∷ gs) h = ap suc (as_many fs gs h.1)

pub words_below : (fs : List Procedure) (gs : List (Routine ℕ)) → AllAskNoMore fs gs → sum (map flat_routine_words gs) ≤ sum (map (λ f. source.far_factor f * source.procedure_words f) fs)
words_below [] [] h = omega arith
words_below [] (g ∷ gs) h = absurd h
words_below (f ∷ fs) [] h = absurd h
words_below (f ∷ fs) (g ∷ gs) h =
    omega (
      arith,
      h.0.words,
      words_below fs gs h.1,
      sum_by-cons (λ n. n) (flat_routine_words g) (map flat_routine_words gs),
      sum_by-cons (λ n. n) (source.far_factor f * source.procedure_words f) (map (λ f. source.far_factor f * source.procedure_words f) fs),
    )

-- ---- paths of calls

-- the function of a number; for one that isn't there any would do
abbrev at : List Procedure → ℕ → Procedure
at p k = get_or p k (record { name = []; params = []; results = []; body = Ends })

at_there : (p : List Procedure) (k : ℕ) → k < length p → Contains p (at p k)
at_there p k lt = (k, lt, get_or_default p k _ _ lt)

name_at : (fs : List Procedure) (x : Text) → Contains (map (λ f. f.name) fs) x → (at fs (place_in (map (λ f. f.name) fs) x)).name ≡ x
name_at [] x c = absurd (none_there x c)
name_at (f ∷ fs) x c = by_name (λ there. name_at fs x there) (bytes_eq f.name x) refl
  where
    by_name : (Contains (map (λ f. f.name) fs) x → (at fs (place_in (map (λ f. f.name) fs) x)).name ≡ x)
        → (b : Bool) → bytes_eq f.name x ≡ b → (at (f ∷ fs) (if b then 0 else suc (place_in (map (λ f. f.name) fs) x))).name ≡ x
    by_name next true e = bytes_eq-same f.name x e
    by_name next false e = next (later x f.name (map (λ f. f.name) fs) e c)

-- a flat form calls the places of the names that its procedure calls
calls_places : (functions : List Text) (f : Procedure) (g : Routine ℕ) → IsFlatForm functions f g → callees g.body ≡ map (λ site. place_in functions site.function) (call_sites f.body)
calls_places functions f g form =
    ap (λ (r : Routine ℕ). callees r.body) form.is ∙ command_callees [] (place_in form.names) (place_in functions) (length form.names) f.body Nothing ∙ append-nil _

all_call_places : (functions : List Text) (fs : List Procedure) (gs : List (Routine ℕ)) → AreFlatForms functions fs gs → AllCallPlaces functions fs gs
all_call_places functions [] [] forms = tt
all_call_places functions [] (g ∷ gs) forms = absurd forms
all_call_places functions (f ∷ fs) [] forms = absurd forms
all_call_places functions (f ∷ fs) (g ∷ gs) forms = (calls_places functions f g forms.0, all_call_places functions fs gs forms.1)

pub flattened_names_by_place : (p : List Procedure) (q : Executable ℕ) → IsFlattened p q → NamesByPlace p q
flattened_names_by_place p q form = record { init = form.init; again = form.again; calls = all_call_places (function_names p) p q.routines form.routines }

-- a name that is called, by its number
record Callee (functions : List Text) (sites : List CallSite) (h : ℕ) : Type 0 where
  name : Text
  called : Contains (map (λ site. site.function) sites) name
  known : Contains functions name
  is : place_in functions name ≡ h

callee_is : (functions : List Text) (sites : List CallSite) (h : ℕ) → AllByRecursion (λ site. Contains functions site.function) sites → Contains (map (λ site. place_in functions site.function) sites) h → Callee functions sites h
callee_is functions [] h known (k, lt, e) = absurd (omega (arith, lt))
callee_is functions (site ∷ sites) h known (zero, lt, e) = record { name = site.function; called = (0, omega arith, refl); known = known.0; is = e }
callee_is functions (site ∷ sites) h known (suc k, lt, e) =
    let c = callee_is functions sites h known.1 (k, omega (arith, lt), e) in
    record { name = c.name; called = (suc c.called.0, omega (arith, c.called.1), c.called.2); known = c.known; is = c.is }

-- whom a flat form calls, its procedure calls
callees_there : (p : List Procedure) (fs : List Procedure) (gs : List (Routine ℕ)) (g h : ℕ) → AreFlatForms (function_names p) fs gs → AllByRecursion (KeepsFunctionRules p) fs → Contains (callees_of (slice_get gs g)) h
    → Contains (source_calls.callees (at fs g)) (at p h).name
callees_there p [] [] g h forms keeps c = absurd (omega (arith, c.1))
callees_there p [] (r ∷ rs) g h forms keeps c = absurd forms
callees_there p (f ∷ fs) [] g h forms keeps c = absurd forms
callees_there p (f ∷ fs) (r ∷ rs) (suc g) h forms keeps c = callees_there p fs rs g h forms.1 keeps.1 c
callees_there p (f ∷ fs) (r ∷ rs) zero h forms keeps c =
    let functions = function_names p in
    let same = calls_places functions f r forms.0 in
    let known = weaken (IsGoodCall p) (λ site. Contains functions site.function) (call_sites f.body) (λ site good. good.known) (by_elements (IsGoodCall p) (call_sites f.body) keeps.0.good_calls) in
    let d = callee_is functions (call_sites f.body) h known (subst (λ (l : List ℕ). Contains l h) same c) in
    subst (λ (x : Text). Contains (source_calls.callees f) x) (sym (name_at p d.name d.known) ∙ ap (λ k. (at p k).name) d.is) d.called

frame_below : (fs : List Procedure) (gs : List (Routine ℕ)) (g : ℕ) → AllAskNoMore fs gs → frame_of (slice_get gs g) ≤ source.frame_need (at fs g)
frame_below [] [] g h = omega arith
frame_below [] (r ∷ rs) g h = absurd h
frame_below (f ∷ fs) [] g h = absurd h
frame_below (f ∷ fs) (r ∷ rs) zero h = h.0.frame
frame_below (f ∷ fs) (r ∷ rs) (suc g) h = frame_below fs rs g h.1

map_append : (p : List Procedure) (xs ys : List ℕ) → map (at p) (xs ++ ys) ≡ map (at p) xs ++ map (at p) ys
map_append p [] ys = refl
map_append p (x ∷ xs) ys = ap (λ l. at p x ∷ l) (map_append p xs ys)

module _ (p : List Procedure) (gs : List (Routine ℕ)) (forms : AreFlatForms (function_names p) p gs) (keeps : AllByRecursion (KeepsFunctionRules p) p) (asks : AllAskNoMore p gs) where
  path_is : (path : List ℕ) → IsCallPath gs path → source_calls.IsCallPath p (map (at p) path)
  path_is [] h = tt
  path_is (g ∷ []) h = at_there p g (omega (arith, h, as_many p gs asks))
  path_is (g ∷ k ∷ path) h = (at_there p g (omega (arith, h.0, as_many p gs asks)), callees_there p p gs g k forms keeps h.1, path_is (k ∷ path) h.2)

  need_below : (path : List ℕ) → path_need gs path ≤ source_calls.path_need (map (at p) path)
  need_below [] = omega arith
  need_below (g ∷ path) =
      omega (
        arith,
        frame_below p gs g asks,
        need_below path,
        sum_by-cons (λ n. n) (frame_of (slice_get gs g)) (map (λ k. frame_of (slice_get gs k)) path),
        sum_by-cons (λ n. n) (source.frame_need (at p g)) (map source.frame_need (map (at p) path)),
      )

  not_recursive : (g : ℕ) → g < length gs → IsRecursive gs g → ⊥
  not_recursive g lt (path, h) =
      let walk : source_calls.IsCallPath p (at p g ∷ map (at p) path ++ at p g ∷ []) =
      subst (λ (l : List Procedure). source_calls.IsCallPath p l) (ap (λ l. at p g ∷ l) (map_append p path (g ∷ []))) (path_is (g ∷ path ++ g ∷ []) h) in
      keeps_at p keeps g (omega (arith, lt, as_many p gs asks)) (map (at p) path, walk)
    where
      keeps_at : (fs : List Procedure) → AllByRecursion (KeepsFunctionRules p) fs → (k : ℕ) → k < length fs → source_calls.IsRecursive p (at fs k) → ⊥
      keeps_at [] h k lt r = omega (arith, lt)
      keeps_at (f ∷ fs) h zero lt r = h.0.no_recursion r
      keeps_at (f ∷ fs) h (suc k) lt r = keeps_at fs h.1 k (omega (arith, lt)) r

-- ---- the whole program

entries : (p : List Procedure) (x : Text) → ((f : Procedure) → f.name ≡ x → IsEntry f) → AllByRecursion (KeepsFunctionRules p) p → AllByRecursion (λ f. f.name ≡ x → (f.params ≡ []) × (f.results ≡ [])) p
entries p x entry keeps = weaken (KeepsFunctionRules p) (λ f. f.name ≡ x → (f.params ≡ []) × (f.results ≡ [])) p (λ f k e. k.entry (entry f e)) keeps

-- its literals are words, as those of every tree are
pub flattened_in_order : (p : List Procedure) (q : Executable ℕ) → All IsProcedure p → KeepsRules p → IsFlattened p q → IsFlatInOrder q
flattened_in_order p q trees keeps form = record {
  few_functions = omega (arith, as_many p q.routines asks, keeps.few_functions);
  init = subst (λ (i : ℕ). order.IsEntry (slice_get q.routines i)) (sym form.init)
      (entry_there (function_names p) p q.routines (codes "init") form.routines keeps.has_init (entries p (codes "init") (λ f e. inl e) each));
  again = subst (λ (i : ℕ). order.IsEntry (slice_get q.routines i)) (sym form.again)
      (entry_there (function_names p) p q.routines (codes "loop") form.routines keeps.has_loop (entries p (codes "loop") (λ f e. inr e) each));
  routines = All-from_recursion (KeepsRoutineRules IsVariable q.routines) q.routines
      (routines_keep p q.routines form.routines p q.routines each (by_elements IsProcedure p trees) (by_elements (λ f. source.frame_need f ≤ MOST_FRAME) p keeps.limits.frames) asks form.routines);
  no_recursion = λ g lt r. not_recursive p q.routines form.routines each asks g lt r;
  code = omega (arith, words_below p q.routines asks, keeps.limits.code);
  stack = λ path h. omega (arith, need_below p q.routines form.routines each asks path, keeps.stack (map (at p) path) (path_is p q.routines form.routines each asks path h));
}
  where
    asks : AllAskNoMore p q.routines
    asks = flattened_asks_no_more p q keeps form

    each : AllByRecursion (KeepsFunctionRules p) p
    each = by_elements (KeepsFunctionRules p) p keeps.functions
