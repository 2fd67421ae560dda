-- The code of expressions gives their values.
use Rattle.std.proofs.Common.{◌≡◌, ℕ, suc, ◌+◌, ◌<◌, ◌≤◌, List, [], ◌∷◌, ◌++◌, length, Option, Some, None, Result, Ok, Err, refl, sym, ap, ap₂, ◌∙◌, subst, arith}
use Rattle.std.specs.Prelude.{unwrap_or}
use Rattle.std.specs.List.{AllByRecursion}
use Rattle.lb_syntax.specs.Names.{Text}
use Rattle.lb_syntax.specs.declared.tree.Op.{Op}
use Rattle.lb_syntax.specs.declared.tree.Width.{Width}
use Rattle.lb_syntax.specs.Tree.{Term, Number, Variable, Loaded, Operation}
use Rattle.lb_syntax.specs.Needs.{term_names, terms_names}
use Rattle.lb_source.specs.declared.ends.Reason.{Reason}
use Rattle.lb_source.specs.Maps.{Memory, Variables}
use Rattle.lb_source.specs.Value as source
use Rattle.lb_source.specs.Value.{value, or_unset, loaded, operated, operate, load, byte_count, before}
use Rattle.lb_source.specs.Run.{State, Outcome as SourceOutcome}
use Rattle.lb_flat.specs.declared.places.Place.TheVariants.{Slot}
use Rattle.lb_flat.specs.Cells.{Cells, put, set_all}
use Rattle.lb_flat.specs.Code as code
use Rattle.lb_flat.specs.Code.{Code, Plain, Sequence, Constant, Copy, Load, Compute}
use Rattle.lb_flat.specs.Run.{World, Outcome, Goes, Caller, then_do, with_value, effect, values, run_with}
use Rattle.lb_flat.specs.InternalFlatForms.{holder, holders, term_code, terms_code}
use Rattle.lb_flat.proofs.PutLemmas.{put_same, put_other, slots_differ}
use Rattle.lb_flat.proofs.SourceFollow.{world_of, FollowsSource}

-- each of these names has a number below t
abbrev pub AreNumbered : (Text → ℕ) → ℕ → List Text → Type 0
AreNumbered number t = AllByRecursion (λ x. number x < t)

pub all_left : {X : Type 0} (P : X → Type 0) (xs ys : List X) → AllByRecursion P (xs ++ ys) → AllByRecursion P xs
all_left P [] ys h = tt
all_left P (x ∷ xs) ys h = (h.0, all_left P xs ys h.1)

pub all_right : {X : Type 0} (P : X → Type 0) (xs ys : List X) → AllByRecursion P (xs ++ ys) → AllByRecursion P ys
all_right P [] ys h = h
all_right P (x ∷ xs) ys h = all_right P xs ys h.1

-- each variable has in the slot of its number what it has in the source
pub record Holds (number : Text → ℕ) (t : ℕ) (s : State) (a : Cells) : Type 0 where
  pub at : (x : Text) → number x < t → a (Slot (number x)) ≡ s.variables x

-- ---- what a value consists of

ok_or : {A : Type 0} → A → Result A Reason → A
ok_or d (Ok v) = v
ok_or d (Err e) = d

ok_same : {A : Type 0} (v w : A) → ◌≡◌ {A = Result A Reason} (Ok v) (Ok w) → v ≡ w
unfolding ok_or
ok_same v w e = ap (ok_or v) e

pub set_is : (o : Option ℕ) (v : ℕ) → or_unset o ≡ Ok v → o ≡ Some v
set_is None v e = absurd (cc)
set_is (Some w) v e = ap Some (ok_same w v e)

record LoadedIs (m : Memory) (w : Width) (r : Result ℕ Reason) (v : ℕ) : Type 0 where
  address : ℕ
  has : r ≡ Ok address
  is : load m (byte_count w) address ≡ Ok v

loaded_is : (m : Memory) (w : Width) (r : Result ℕ Reason) (v : ℕ) → loaded m w r ≡ Ok v → LoadedIs m w r v
loaded_is m w (Ok a) v e = record { address = a; has = refl; is = e }
loaded_is m w (Err f) v e = absurd (cc)

record OperatedIs (op : Op) (r q : Result ℕ Reason) (v : ℕ) : Type 0 where
  left : ℕ
  right : ℕ
  has_left : r ≡ Ok left
  has_right : q ≡ Ok right
  is : operate op left right ≡ v

operated_is : (op : Op) (r q : Result ℕ Reason) (v : ℕ) → operated op r q ≡ Ok v → OperatedIs op r q v
operated_is op (Ok a) (Ok b) v e = record { left = a; right = b; has_left = refl; has_right = refl; is = ok_same _ v e }
operated_is op (Ok a) (Err f) v e = absurd (cc)
operated_is op (Err f) q v e = absurd (cc)

-- a first value and others
pub record FirstIs (r : Result ℕ Reason) (q : Result (List ℕ) Reason) (vs : List ℕ) : Type 0 where
  pub first : ℕ
  pub others : List ℕ
  pub has : r ≡ Ok first
  pub rest : q ≡ Ok others
  pub whole : first ∷ others ≡ vs

pub first_is : (r : Result ℕ Reason) (q : Result (List ℕ) Reason) (vs : List ℕ) → before r q ≡ Ok vs → FirstIs r q vs
first_is (Err f) q vs e = absurd (cc)
first_is (Ok v) (Err f) vs e = absurd (cc)
first_is (Ok v) (Ok ws) vs e = record { first = v; others = ws; has = refl; rest = refl; whole = ok_same (v ∷ ws) vs e }

pub values_length : (variables : Variables) (memory : Memory) (es : List Term) (vs : List ℕ) → source.values variables memory es ≡ Ok vs → length vs ≡ length es
values_length variables memory [] vs e = ap length (sym (ok_same [] vs e))
values_length variables memory (p ∷ ps) vs e =
    let d = first_is (value variables memory p) (source.values variables memory ps) vs e in
    ap length (sym d.whole) ∙ ap suc (values_length variables memory ps d.others d.rest)

-- ---- expressions

-- a holder is a variable or t
pub holder_below : (number : Text → ℕ) (t0 : ℕ) (e : Term) (t : ℕ) → t0 ≤ t → AreNumbered number t0 (term_names e) → holder number e None t < t + 1
holder_below number t0 (Number m) t le named = omega arith
holder_below number t0 (Variable x) t le named = omega (arith, named.0, le)
holder_below number t0 (Loaded w p) t le named = omega arith
holder_below number t0 (Operation op l r) t le named = omega arith

module _ (number : Text → ℕ) (t0 : ℕ) (call : Caller) (n : ℕ) (R : State → Cells → Type 0) (L : Cells → World → Outcome Cells) (o : SourceOutcome) (os : List ℕ) where
  -- a temporary that is set leaves the variables
  temporary_holds : (s : State) (a : Cells) (t v : ℕ) → t0 ≤ t → Holds number t0 s a → Holds number t0 s (put (Slot t) (Some v) a)
  temporary_holds s a t v le g = record { at = λ x lt. put_other (Slot t) (Slot (number x)) (Some v) a (slots_differ t (number x) (omega arith)) ∙ g.at x lt }

  -- a command that gives one value to a variable
  one_given : (d : code.Operation) (xs : List ℕ) (t v : ℕ) (vs : List ℕ) (rest : Code ℕ) (a : Cells) (w : World) → values Slot xs a ≡ Ok vs → effect call d vs w ≡ Goes (v ∷ []) w
      → run_with Slot call n os (Sequence (Plain d xs (t ∷ [])) rest) a w ≡ run_with Slot call n os rest (put (Slot t) (Some v) a) w
  one_given d xs t v vs rest a w e f =
      ap (λ r. then_do (with_value r w (λ us. then_do (effect call d us w) (λ rs u. Goes (set_all Slot (t ∷ []) rs a) u))) (run_with Slot call n os rest)) e
      ∙ ap (λ p. then_do (then_do p (λ rs u. Goes (set_all Slot (t ∷ []) rs a) u)) (run_with Slot call n os rest)) f

  -- what is owed from these cells on
  abbrev Owed : State → Code ℕ → Cells → Type 0
  Owed s rest b = FollowsSource R o (then_do (run_with Slot call n os rest b (world_of s)) L)

  -- what is owed once the value is in its holder: all else is as before, as far as the source has it, and without a target so are the
  -- temporaries below
  abbrev Onward : State → Cells → Term → Option ℕ → ℕ → ℕ → Code ℕ → Type 0
  Onward s a e None t v rest =
      (b : Cells) → Holds number t0 s b → b (Slot (holder number e None t)) ≡ Some v → ((k : ℕ) → k < t → b (Slot k) ≡ a (Slot k)) → Owed s rest b
  Onward s a e (Some y) t v rest = (b : Cells) → Holds number t0 s b → Owed s rest (put (Slot y) (Some v) b)

  -- the last command of an expression, which isn't a variable, gives the value to the target or to t
  last_follows : (s : State) (e : Term) (target : Option ℕ) (d : code.Operation) (xs : List ℕ) (t v : ℕ) (vs : List ℕ) (rest : Code ℕ) (a b : Cells) → t0 ≤ t → Holds number t0 s b → values Slot xs b ≡ Ok vs
      → effect call d vs (world_of s) ≡ Goes (v ∷ []) (world_of s) → holder number e None t ≡ t → ((k : ℕ) → k < t → b (Slot k) ≡ a (Slot k)) → Onward s a e target t v rest
      → Owed s (Sequence (Plain d xs (unwrap_or target t ∷ [])) rest) b
  last_follows s e (Some y) d xs t v vs rest a b le g is f here keeps k =
      subst (λ p. FollowsSource R o (then_do p L)) (sym (one_given d xs y v vs rest b (world_of s) is f)) (k b g)
  last_follows s e None d xs t v vs rest a b le g is f here keeps k =
      subst (λ p. FollowsSource R o (then_do p L)) (sym (one_given d xs t v vs rest b (world_of s) is f))
      (k (put (Slot t) (Some v) b) (temporary_holds s b t v le g)
      (ap (λ i. put (Slot t) (Some v) b (Slot i)) here ∙ put_same (Slot t) (Some v) b)
      (λ j lt. put_other (Slot t) (Slot j) (Some v) b (slots_differ t j (omega arith)) ∙ keeps j lt))

  pub term_follows : (e : Term) (s : State) (target : Option ℕ) (t v : ℕ) (rest : Code ℕ) (a : Cells) → t0 ≤ t → AreNumbered number t0 (term_names e) → Holds number t0 s a → value s.variables s.memory e ≡ Ok v
      → Onward s a e target t v rest → Owed s (term_code number e target t rest) a
  term_follows (Number m) s target t v rest a le named g e k =
      last_follows s (Number m) target (Constant m) [] t v [] rest a a le g refl (ap (λ (q : ℕ). Goes (q ∷ []) (world_of s)) (ok_same m v e)) refl (λ j lt. refl) k
  term_follows (Variable x) s None t v rest a le named g e k = k a g (g.at x named.0 ∙ set_is (s.variables x) v e) (λ j lt. refl)
  term_follows (Variable x) s (Some y) t v rest a le named g e k =
      let has : a (Slot (number x)) ≡ Some v = g.at x named.0 ∙ set_is (s.variables x) v e in
      subst (λ p. FollowsSource R o (then_do p L))
      (sym (one_given Copy (number x ∷ []) y v (v ∷ []) rest a (world_of s) (ap (λ q. before (or_unset q) (Ok [])) has) refl)) (k a g)
  term_follows (Loaded w p) s target t v rest a le named g e k =
      let d = loaded_is s.memory w (value s.variables s.memory p) v e in
      let from = holder number p None t in
      term_follows p s None t d.address (Sequence (Plain (Load w) (from ∷ []) (unwrap_or target t ∷ [])) rest) a le named g d.has (λ b g' has keeps.
      last_follows s (Loaded w p) target (Load w) (from ∷ []) t v (d.address ∷ []) rest a b le g' (ap (λ q. before (or_unset q) (Ok [])) has)
      (ap (λ r. with_value r (world_of s) (λ q. Goes (q ∷ []) (world_of s))) d.is) refl keeps k)
  term_follows (Operation op l r) s target t v rest a le named g e k =
      let d = operated_is op (value s.variables s.memory l) (value s.variables s.memory r) v e in
      let i = holder number l None t in
      let j = holder number r None (t + 1) in
      let last = Sequence (Plain (Compute op) (i ∷ j ∷ []) (unwrap_or target t ∷ [])) rest in
      let left_named = all_left _ (term_names l) (term_names r) named in
      term_follows l s None t d.left (term_code number r None (t + 1) last) a le left_named g d.has_left (λ b g1 has1 keeps1.
      term_follows r s None (t + 1) d.right last b (omega arith) (all_right _ (term_names l) (term_names r) named) g1 d.has_right (λ c g2 has2 keeps2.
      let first : c (Slot i) ≡ Some d.left = keeps2 i (holder_below number t0 l t le left_named) ∙ has1 in
      last_follows s (Operation op l r) target (Compute op) (i ∷ j ∷ []) t v (d.left ∷ d.right ∷ []) rest a c le g2
      (ap₂ (λ p q. before (or_unset p) (before (or_unset q) (Ok []))) first has2) (ap (λ (q : ℕ). Goes (q ∷ []) (world_of s)) d.is) refl
      (λ j' lt. keeps2 j' (omega arith) ∙ keeps1 j' lt) k))

  pub terms_follow : (es : List Term) (s : State) (t : ℕ) (vs : List ℕ) (rest : Code ℕ) (a : Cells) → t0 ≤ t → AreNumbered number t0 (terms_names es) → Holds number t0 s a
      → source.values s.variables s.memory es ≡ Ok vs
      → ((b : Cells) → Holds number t0 s b → values Slot (holders number es t) b ≡ Ok vs → ((k : ℕ) → k < t → b (Slot k) ≡ a (Slot k)) → Owed s rest b)
      → Owed s (terms_code number es t rest) a
  terms_follow [] s t vs rest a le named g e k = k a g e (λ j lt. refl)
  terms_follow (p ∷ ps) s t vs rest a le named g e k =
      let d = first_is (value s.variables s.memory p) (source.values s.variables s.memory ps) vs e in
      let first_named = all_left _ (term_names p) (terms_names ps) named in
      term_follows p s None t d.first (terms_code number ps (t + 1) rest) a le first_named g d.has (λ b g1 has1 keeps1.
      terms_follow ps s (t + 1) d.others rest b (omega arith) (all_right _ (term_names p) (terms_names ps) named) g1 d.rest (λ c g2 vals keeps2.
      k c g2 (ap₂ (λ q r. before (or_unset q) r) (keeps2 (holder number p None t) (holder_below number t0 p t le first_named) ∙ has1) vals ∙ ap Ok d.whole) (λ j lt. keeps2 j (omega arith) ∙ keeps1 j lt)))
