-- The flat form of a program that keeps the rules asks for no more than the program.
use Rattle.std.proofs.Common.{◌≡◌, ℕ, suc, ◌+◌, ◌*◌, ◌≤◌, nat_le, Bool, true, false, List, [], ◌∷◌, map, length, sum, Option, Some, None, refl, sym, ap, ◌∙◌, subst, arith, Contains}
use Rattle.std.specs.Prelude.{if◌then◌else◌, unwrap_or}
use Rattle.std.specs.List.{AllByRecursion}
use Rattle.std.specs.Str.{bytes_eq}
use Rattle.std.proofs.lemmas.Bool.{le-leb, leb-true}
use Rattle.std.proofs.lemmas.List.{length-map}
use Rattle.std.proofs.lemmas.List.Sums.{sum_by-cons}
use Rattle.lb_syntax.specs.Names.{Text}
use Rattle.lb_syntax.specs.Tree.{Term, Number, Variable, Loaded, Operation, Procedure}
use Rattle.lb_syntax.specs.Tree.{Command, Skips, Sets, Unsets, Stores, Allocates, Chooses, Repeats, Calls, Interacts, Ends, Then}
use Rattle.lb_syntax.specs.Needs as source
use Rattle.lb_syntax.specs.Needs.{nodes, terms_words}
use Rattle.lb_syntax.specs.Calls.{CallSite, AccessSite, call_sites, access_sites}
use Rattle.lb_syntax.specs.Rules.{IsGoodCall, IsGoodAccess, HasShape, Fits, KeepsFunctionRules, KeepsRules, function_names}
use Rattle.lb_syntax.specs.declared.tree.Action.{Action}
use Rattle.lb_syntax.specs.declared.tree.Action.TheVariants.{Read, Write}
use Rattle.lb_syntax.specs.declared.limits.TheConstants.{NEAR_FRAME}
use Rattle.lb_syntax.proofs.SetLemmas.{distinct-size}
use Rattle.lb_syntax.proofs.DistinctLemmas.{bytes_eq-same}
use Rattle.lb_flat.specs.Code.{Code, Plain, Branch, Nothing, Sequence, Compute, Load, Store, Call, Access, Routine, Executable, sites}
use Rattle.lb_flat.specs.Counts.{loads, stores, accesses, arguments, targets}
use Rattle.lb_flat.specs.Needs.{frame_need, flat_words}
use Rattle.lb_flat.specs.SourceCounts.{term_loads, source_loads, source_stores, source_accesses, source_arguments, source_targets, greatest_arguments}
use Rattle.lb_flat.specs.Flattened.{place_in}
use Rattle.lb_flat.specs.InternalFlatForms.{holder, holders, term_code, terms_code, flat_code, flat_procedure, IsFlatForm, AreFlatForms, IsFlattened}
use Rattle.lb_flat.specs.Laws.{AsksNoMore, AllAskNoMore}
use Rattle.lb_flat.proofs.FlatTerms.{all_left, all_right}
use Rattle.lb_flat.proofs.FlatSites.{block_sites}
use Rattle.lb_flat.proofs.FlatForms.{by_elements, weaken, later, none_there}

-- ---- expressions

-- code that adds so many loads to the rest, at most so many words, and nothing else that is counted
pub record Adds (l w : ℕ) (c rest : Code ℕ) : Type 0 where
  pub loads : loads c ≡ l + loads rest
  pub stores : stores c ≡ stores rest
  pub accesses : accesses c ≡ accesses rest
  pub arguments : arguments c ≡ arguments rest
  pub targets : targets c ≡ targets rest
  pub words : flat_words c ≤ w + flat_words rest

pub term_adds : (number : Text → ℕ) (e : Term) (target : Option ℕ) (t : ℕ) (rest : Code ℕ) → Adds (term_loads e) (6 * nodes e) (term_code number e target t rest) rest
term_adds number (Number n) target t rest = record { loads = omega arith; stores = omega arith; accesses = omega arith; arguments = omega arith; targets = omega arith; words = omega arith }
term_adds number (Variable x) None t rest = record { loads = omega arith; stores = omega arith; accesses = omega arith; arguments = omega arith; targets = omega arith; words = omega arith }
term_adds number (Variable x) (Some y) t rest = record { loads = omega arith; stores = omega arith; accesses = omega arith; arguments = omega arith; targets = omega arith; words = omega arith }
term_adds number (Loaded w a) target t rest =
    let h = term_adds number a None t (Sequence (Plain (Load w) (holder number a None t ∷ []) (unwrap_or target t ∷ [])) rest) in
    record { loads = omega (arith, h.loads); stores = omega (arith, h.stores); accesses = omega (arith, h.accesses); arguments = omega (arith, h.arguments); targets = omega (arith, h.targets); words = omega (arith, h.words) }
term_adds number (Operation op l r) target t rest =
    let last = Sequence (Plain (Compute op) (holder number l None t ∷ holder number r None (t + 1) ∷ []) (unwrap_or target t ∷ [])) rest in
    let g = term_adds number r None (t + 1) last in
    let h = term_adds number l None t (term_code number r None (t + 1) last) in
    record {
      loads = omega (arith, h.loads, g.loads);
      stores = omega (arith, h.stores, g.stores);
      accesses = omega (arith, h.accesses, g.accesses);
      arguments = omega (arith, h.arguments, g.arguments);
      targets = omega (arith, h.targets, g.targets);
      words = omega (arith, h.words, g.words);
    }

terms_add : (number : Text → ℕ) (es : List Term) (t : ℕ) (rest : Code ℕ) → Adds (sum (map term_loads es)) (terms_words es) (terms_code number es t rest) rest
terms_add number [] t rest = record { loads = omega arith; stores = refl; accesses = refl; arguments = refl; targets = refl; words = omega arith }
terms_add number (e ∷ es) t rest =
    let h = term_adds number e None t (terms_code number es (t + 1) rest) in
    let g = terms_add number es (t + 1) rest in
    let more_loads = sum_by-cons (λ n. n) (term_loads e) (map term_loads es) in
    let more_words = sum_by-cons (λ n. n) (source.term_words e) (map source.term_words es) in
    record {
      loads = omega (arith, h.loads, g.loads, more_loads);
      stores = h.stores ∙ g.stores;
      accesses = h.accesses ∙ g.accesses;
      arguments = h.arguments ∙ g.arguments;
      targets = h.targets ∙ g.targets;
      words = omega (arith, h.words, g.words, more_words);
    }

pub holders_length : (number : Text → ℕ) (es : List Term) (t : ℕ) → length (holders number es t) ≡ length es
holders_length number [] t = refl
holders_length number (e ∷ es) t = ap suc (holders_length number es (t + 1))

-- ---- commands

-- what a command's code adds to the rest
pub record Counts (c : Command) (d rest : Code ℕ) : Type 0 where
  pub loads : loads d ≡ source_loads c + loads rest
  pub stores : stores d ≡ source_stores c + stores rest
  pub accesses : accesses d ≡ source_accesses c + accesses rest
  pub arguments : arguments d ≡ source_arguments c + arguments rest
  pub targets : targets d ≡ source_targets c + targets rest
  pub words : flat_words d ≤ source.words c + flat_words rest

module _ (number function : Text → ℕ) (t : ℕ) where
  abbrev code : Command → Code ℕ → Code ℕ
  code c rest = flat_code number function t c rest

  pub counts : (c : Command) (rest : Code ℕ) → Counts c (code c rest) rest
  counts Skips rest =
      record {
        loads = omega arith;
        stores = omega arith;
        accesses = omega arith;
        arguments = omega arith;
        targets = omega arith;
        words = omega arith;
      }
  counts (Sets x e) rest =
      let h = term_adds number e (Some (number x)) t rest in
      record {
        loads = omega (arith, h.loads);
        stores = omega (arith, h.stores);
        accesses = omega (arith, h.accesses);
        arguments = omega (arith, h.arguments);
        targets = omega (arith, h.targets);
        words = omega (arith, h.words);
      }
  counts (Unsets x) rest =
      record {
        loads = omega arith;
        stores = omega arith;
        accesses = omega arith;
        arguments = omega arith;
        targets = omega arith;
        words = omega arith;
      }
  counts (Stores w a e) rest =
      let last = Sequence (Plain (Store w) (holder number a None t ∷ holder number e None (t + 1) ∷ []) []) rest in
      let h = term_adds number a None t (term_code number e None (t + 1) last) in
      let g = term_adds number e None (t + 1) last in
      record {
        loads = omega (arith, h.loads, g.loads);
        stores = omega (arith, h.stores, g.stores);
        accesses = omega (arith, h.accesses, g.accesses);
        arguments = omega (arith, h.arguments, g.arguments);
        targets = omega (arith, h.targets, g.targets);
        words = omega (arith, h.words, g.words);
      }
  counts (Allocates n x b) rest =
      let h = counts b Nothing in
      record {
        loads = omega (arith, h.loads);
        stores = omega (arith, h.stores);
        accesses = omega (arith, h.accesses);
        arguments = omega (arith, h.arguments);
        targets = omega (arith, h.targets);
        words = omega (arith, h.words);
      }
  counts (Chooses e b d) rest =
      let h = term_adds number e None t (Sequence (Branch (holder number e None t) (code b Nothing) (code d Nothing)) rest) in
      let g = counts b Nothing in
      let k = counts d Nothing in
      record {
        loads = omega (arith, h.loads, g.loads, k.loads);
        stores = omega (arith, h.stores, g.stores, k.stores);
        accesses = omega (arith, h.accesses, g.accesses, k.accesses);
        arguments = omega (arith, h.arguments, g.arguments, k.arguments);
        targets = omega (arith, h.targets, g.targets, k.targets);
        words = omega (arith, h.words, g.words, k.words);
      }
  counts (Repeats e b) rest =
      let h = term_adds number e None t Nothing in
      let g = counts b Nothing in
      record {
        loads = omega (arith, h.loads, g.loads);
        stores = omega (arith, h.stores, g.stores);
        accesses = omega (arith, h.accesses, g.accesses);
        arguments = omega (arith, h.arguments, g.arguments);
        targets = omega (arith, h.targets, g.targets);
        words = omega (arith, h.words, g.words);
      }
  counts (Calls xs f es) rest =
      let h = terms_add number es t (Sequence (Plain (Call (function f)) (holders number es t) (map number xs)) rest) in
      record {
        loads = omega (arith, h.loads);
        stores = omega (arith, h.stores);
        accesses = omega (arith, h.accesses);
        arguments = omega (arith, h.arguments, holders_length number es t, length-map xs number);
        targets = omega (arith, h.targets, holders_length number es t, length-map xs number);
        words = omega (arith, h.words, holders_length number es t, length-map xs number);
      }
  counts (Interacts xs k es) rest =
      let h = terms_add number es t (Sequence (Plain (Access k) (holders number es t) (map number xs)) rest) in
      record {
        loads = omega (arith, h.loads);
        stores = omega (arith, h.stores);
        accesses = omega (arith, h.accesses);
        arguments = omega (arith, h.arguments, holders_length number es t, length-map xs number);
        targets = omega (arith, h.targets, holders_length number es t, length-map xs number);
        words = omega (arith, h.words, holders_length number es t, length-map xs number);
      }
  counts Ends rest =
      record {
        loads = omega arith;
        stores = omega arith;
        accesses = omega arith;
        arguments = omega arith;
        targets = omega arith;
        words = omega arith;
      }
  counts (Then c d) rest =
      let h = counts c (code d rest) in
      let g = counts d rest in
      record {
        loads = omega (arith, h.loads, g.loads);
        stores = omega (arith, h.stores, g.stores);
        accesses = omega (arith, h.accesses, g.accesses);
        arguments = omega (arith, h.arguments, g.arguments);
        targets = omega (arith, h.targets, g.targets);
        words = omega (arith, h.words, g.words);
      }

-- ---- few arguments

access_arguments : (site : AccessSite) → IsGoodAccess site → length site.arguments ≤ 8
access_arguments site good = by_action site.action good
  where
    by_action : (k : Action) → HasShape k (length site.targets) (length site.arguments) → length site.arguments ≤ 8
    by_action Read h = omega (arith, h.1)
    by_action Write h = omega (arith, h.1)

call_arguments : (fs : List Procedure) (site : CallSite) → Contains (map (λ f. f.name) fs) site.function → AllByRecursion (λ f. (f.name ≡ site.function → Fits site f) × (length f.params ≤ 8)) fs → length site.arguments ≤ 8
call_arguments [] site c h = absurd (none_there site.function c)
call_arguments (f ∷ fs) site c h = at (λ there. call_arguments fs site there h.1) (bytes_eq f.name site.function) refl
  where
    at : (Contains (map (λ f. f.name) fs) site.function → length site.arguments ≤ 8) → (b : Bool) → bytes_eq f.name site.function ≡ b → length site.arguments ≤ 8
    at next true e = omega (arith, (h.0.0 (bytes_eq-same f.name site.function e)).0, h.0.1)
    at next false e = next (later site.function f.name (map (λ f. f.name) fs) e c)

both_hold : {X : Type 0} (P Q : X → Type 0) (xs : List X) → AllByRecursion P xs → AllByRecursion Q xs → AllByRecursion (λ x. P x × Q x) xs
both_hold P Q [] h k = tt
both_hold P Q (x ∷ xs) h k = ((h.0, k.0), both_hold P Q xs h.1 k.1)

abbrev FewCalls : List CallSite → Type 0
FewCalls = AllByRecursion (λ site. length site.arguments ≤ 8)

abbrev FewAccesses : List AccessSite → Type 0
FewAccesses = AllByRecursion (λ site. length site.arguments ≤ 8)

few_arguments : (c : Command) → FewCalls (call_sites c) → FewAccesses (access_sites c) → greatest_arguments c ≤ 8
few_arguments Skips h k = omega arith
few_arguments (Sets x e) h k = omega arith
few_arguments (Unsets x) h k = omega arith
few_arguments (Stores w a e) h k = omega arith
few_arguments (Allocates n x b) h k = few_arguments b h k
few_arguments (Chooses e b d) h k =
    omega (arith, few_arguments b (all_left _ (call_sites b) (call_sites d) h) (all_left _ (access_sites b) (access_sites d) k), few_arguments d (all_right _ (call_sites b) (call_sites d) h) (all_right _ (access_sites b) (access_sites d) k))
few_arguments (Repeats e b) h k = few_arguments b h k
few_arguments (Calls xs f es) h k = h.0
few_arguments (Interacts xs j es) h k = k.0
few_arguments Ends h k = omega arith
few_arguments (Then b d) h k =
    omega (arith, few_arguments b (all_left _ (call_sites b) (call_sites d) h) (all_left _ (access_sites b) (access_sites d) k), few_arguments d (all_right _ (call_sites b) (call_sites d) h) (all_right _ (access_sites b) (access_sites d) k))

-- ---- functions

-- words doubled by no smaller frame
factor_grows : (a b w v : ℕ) → a ≤ b → w ≤ v → (if nat_le a NEAR_FRAME then 1 else 2) * w ≤ (if nat_le b NEAR_FRAME then 1 else 2) * v
factor_grows a b w v le h = at (nat_le a NEAR_FRAME) (nat_le b NEAR_FRAME) refl refl
  where
    at : (p q : Bool) → nat_le a NEAR_FRAME ≡ p → nat_le b NEAR_FRAME ≡ q → (if p then 1 else 2) * w ≤ (if q then 1 else 2) * v
    at true true ep eq = omega (arith, h)
    at true false ep eq = omega (arith, h)
    at false false ep eq = omega (arith, h)
    at false true ep eq =
        let near : nat_le a NEAR_FRAME ≡ true = le-leb a NEAR_FRAME (omega (arith, le, leb-true b NEAR_FRAME eq)) in
        let no : true ≡ false = sym near ∙ ep in
        absurd (cc)

procedure_asks : (functions : List Text) (f : Procedure) (g : Routine ℕ) → greatest_arguments f.body ≤ 8 → IsFlatForm functions f g → AsksNoMore f g
procedure_asks functions f g few form = subst (λ (r : Routine ℕ). AsksNoMore f r) (sym form.is) (record {
  variables = omega (arith, size);
  params = length-map f.params _;
  results = length-map f.results _;
  blocks = blocks;
  loads = omega (arith, all.loads);
  stores = omega (arith, all.stores);
  accesses = omega (arith, all.accesses);
  arguments = omega (arith, all.arguments);
  targets = omega (arith, all.targets);
  frame = frame;
  words = factor_grows (frame_need flat) (source.frame_need f) _ _ frame (omega (arith, all.words, length-map f.params number, length-map f.results number));
})
  where
    number : Text → ℕ
    number = place_in form.names

    flat : Routine ℕ
    flat = flat_procedure functions form.names f

    size : source.variables f ≡ length form.names
    size = distinct-size (source.procedure_names f) form.names form.are_names.distinct form.are_names.same

    blocks : sites flat.body ≡ source.sites f.body
    blocks = block_sites number (place_in functions) (length form.names) f.body

    all : Counts f.body flat.body Nothing
    all = counts number (place_in functions) (length form.names) f.body Nothing

    frame : frame_need flat ≤ source.frame_need f
    frame = omega (arith, few, size, ap sum blocks)

-- ---- programs

asks_each : (functions : List Text) (fs : List Procedure) (gs : List (Routine ℕ)) → AllByRecursion (λ f. greatest_arguments f.body ≤ 8) fs → AreFlatForms functions fs gs → AllAskNoMore fs gs
asks_each functions [] [] few forms = tt
asks_each functions [] (g ∷ gs) few forms = absurd forms
asks_each functions (f ∷ fs) [] few forms = absurd forms
asks_each functions (f ∷ fs) (g ∷ gs) few forms = (procedure_asks functions f g few.0 forms.0, asks_each functions fs gs few.1 forms.1)

pub flattened_asks_no_more : (p : List Procedure) (q : Executable ℕ) → KeepsRules p → IsFlattened p q → AllAskNoMore p q.routines
flattened_asks_no_more p q keeps form =
    let each = by_elements (KeepsFunctionRules p) p keeps.functions in
    let few_params = weaken (KeepsFunctionRules p) (λ f. length f.params ≤ 8) p (λ f k. k.few_params) each in
    let few_calls = λ (site : CallSite) (good : IsGoodCall p site). call_arguments p site good.known
    (both_hold (λ f. f.name ≡ site.function → Fits site f) (λ f. length f.params ≤ 8) p (by_elements (λ f. f.name ≡ site.function → Fits site f) p good.fits) few_params) in
    asks_each (function_names p) p q.routines (weaken (KeepsFunctionRules p) (λ f. greatest_arguments f.body ≤ 8) p (λ f k. few_arguments f.body
    (weaken (IsGoodCall p) (λ site. length site.arguments ≤ 8) (call_sites f.body) few_calls (by_elements (IsGoodCall p) (call_sites f.body) k.good_calls))
    (weaken IsGoodAccess (λ site. length site.arguments ≤ 8) (access_sites f.body) access_arguments (by_elements IsGoodAccess (access_sites f.body) k.good_accesses))) each) form.routines
