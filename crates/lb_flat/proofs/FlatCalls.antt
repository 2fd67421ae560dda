-- Calls of flat functions do what calls of the source's do.
use Rattle.std.proofs.Common.{◌≡◌, ℕ, zero, suc, List, [], ◌∷◌, map, length, Option, Some, None, Result, Ok, Err, refl, sym, ap, ◌∙◌, subst, arith, slice_get}
use Rattle.std.proofs.lemmas.List.{length-map}
use Rattle.lb_syntax.specs.Names.{Text}
use Rattle.lb_syntax.specs.Tree.{Variable}
use Rattle.lb_source.specs.declared.ends.Reason.{Reason}
use Rattle.lb_source.specs.Maps as maps
use Rattle.lb_source.specs.Value.{or_unset, before, values as source_values}
use Rattle.lb_source.specs.Run as source
use Rattle.lb_source.specs.Run.{State, values_in}
use Rattle.lb_flat.specs.declared.places.Place.TheVariants.{Slot}
use Rattle.lb_flat.specs.Cells.{Cells, no_cells, put, set_all}
use Rattle.lb_flat.specs.Code.{Nothing}
use Rattle.lb_flat.specs.Run.{World, Outcome, Goes, Caller, then_do, with_value, spend, values, run_with, Callable, enter, calls}
use Rattle.lb_flat.specs.InternalFlatForms.{flat_code}
use Rattle.lb_flat.proofs.SourceFollow.{world_of, FollowsSource, both_go, both_stop, owes_nothing}
use Rattle.lb_flat.proofs.FlatTerms.{AreNumbered, Holds, first_is, values_length}
use Rattle.lb_flat.proofs.FlatCommands.{Arities, Suits, IsNumbering, CallsAlike, set_holds, body_follows}

-- ---- several variables

-- variables set in turn, each with its value
set_all_holds : (number : Text → ℕ) (t : ℕ) → IsNumbering number t → (xs : List Text) (vs : List ℕ) (s : State) (a : Cells) → AreNumbered number t xs → length xs ≡ length vs → Holds number t s a
    → Holds number t (record s { variables = source.set_all xs vs s.variables }) (set_all Slot (map number xs) vs a)
set_all_holds number t one [] vs s a below e g = record { at = g.at }
set_all_holds number t one (x ∷ xs) [] s a below e g = absurd (omega (arith, e))
set_all_holds number t one (x ∷ xs) (v ∷ vs) s a below e g = record {
  at = (set_all_holds number t one xs vs (record s { variables = maps.put x (Some v) s.variables }) (put (Slot (number x)) (Some v) a) below.1 (omega (arith, e))
      (set_holds number t one x (Some v) s a below.0 g)).at;
}

-- results that are read
results_read : (number : Text → ℕ) (t : ℕ) (xs : List Text) (s : State) (a : Cells) (rs : List ℕ) → AreNumbered number t xs → Holds number t s a → source_values s.variables s.memory (map Variable xs) ≡ Ok rs
    → values Slot (map number xs) a ≡ Ok rs
results_read number t [] s a rs below g e = e
results_read number t (x ∷ xs) s a rs below g e =
    let d = first_is (or_unset (s.variables x)) (source_values s.variables s.memory (map Variable xs)) rs e in
    ap (λ o. before (or_unset o) (values Slot (map number xs) a)) (g.at x below.0)
    ∙ ap (λ r. before r (values Slot (map number xs) a)) d.has ∙ ap (λ r. before (Ok d.first) r) (results_read number t xs s a d.others below.1 g d.rest) ∙ ap Ok d.whole

-- ---- functions

-- a source function and its flat form, with their frames, found under a name
pub record IsFlatOf (ar : Arities) (function : Text → ℕ) (f : Text) (g : source.Callable) (h : Callable ℕ) : Type 0 where
  pub number : Text → ℕ
  pub t : ℕ
  pub numbering : IsNumbering number t
  pub params : AreNumbered number t g.params
  pub results : AreNumbered number t g.results
  pub suits : Suits ar number t g.body
  pub is : h ≡ record { cell = Slot; params = map number g.params; results = map number g.results; body = flat_code number function t g.body Nothing; frame = g.frame; offsets = g.offsets }
  pub param_count : length g.params ≡ ar.params f
  pub result_count : length g.results ≡ ar.results f

-- a function that is called is found by its name and by its number, or by neither
pub data FoundAlike (ar : Arities) (function : Text → ℕ) (f : Text) : Option source.Callable → Option (Callable ℕ) → Type 0 where
  neither : FoundAlike ar function f None None
  both : (g : source.Callable) (h : Callable ℕ) → IsFlatOf ar function f g h → FoundAlike ar function f (Some g) (Some h)

-- ---- calls

module _ (R : State → Cells → Type 0) (F : List ℕ → World → Outcome Cells) where
  spend_follows : (n : ℕ) (s : State) (go : State → source.Outcome) (flat_go : World → Outcome (List ℕ))
      → ((n : ℕ) → FollowsSource R (go (record s { fuel = n })) (then_do (flat_go (world_of (record s { fuel = n }))) F)) → FollowsSource R (source.spend n s go) (then_do (spend n (world_of s) flat_go) F)
  spend_follows zero s go flat_go h = both_stop
  spend_follows (suc n) s go flat_go h = h n

  after_body : (Q : State → Cells → Type 0) (K : State → source.Outcome) (G : Cells → World → Outcome (List ℕ)) {o : source.Outcome} {q : Outcome Cells} → FollowsSource Q o q
      → ((s : State) (a : Cells) → Q s a → FollowsSource R (K s) (then_do (G a (world_of s)) F)) → FollowsSource R (source.then_do o K) (then_do (then_do q G) F)
  after_body Q K G (both_go r) k = k _ _ r
  after_body Q K G both_stop k = both_stop
  after_body Q K G owes_nothing k = owes_nothing

  results_follow : (u : State) (f : List ℕ → source.Outcome) (G : List ℕ → Outcome (List ℕ)) (r q : Result (List ℕ) Reason) → ((rs : List ℕ) → r ≡ Ok rs → q ≡ Ok rs)
      → ((rs : List ℕ) → r ≡ Ok rs → FollowsSource R (f rs) (then_do (G rs) F)) → FollowsSource R (source.with_value r u f) (then_do (with_value q (world_of u) G) F)
  results_follow u f G (Err x) q h k = owes_nothing
  results_follow u f G (Ok rs) q h k = subst (λ z. FollowsSource R (f rs) (then_do (with_value z (world_of u) G) F)) (sym (h rs refl)) (k rs refl)

results_length : (xs : List Text) (variables : maps.Variables) (memory : maps.Memory) (rs : List ℕ) → source_values variables memory (map Variable xs) ≡ Ok rs → length rs ≡ length xs
results_length xs variables memory rs e = values_length variables memory (map Variable xs) rs e ∙ length-map xs Variable

module _ (ar : Arities) (function : Text → ℕ) (call : source.Caller) (other : Caller) (n : ℕ) (inner : (number : Text → ℕ) (t : ℕ) → IsNumbering number t → CallsAlike ar number function t call other)
    (number : Text → ℕ) (t : ℕ) (one : IsNumbering number t) (f : Text) (vs : List ℕ) (xs : List Text) (s : State) (a : Cells)
    (below : AreNumbered number t xs) (result_count : length xs ≡ ar.results f) (param_count : length vs ≡ ar.params f) (g : Holds number t s a) where
  abbrev targets_set : List ℕ → World → Outcome Cells
  targets_set rs u = Goes (set_all Slot (map number xs) rs a) u

  entered_alike : (d : source.Callable) (h : Callable ℕ) → IsFlatOf ar function f d h
      → FollowsSource (Holds number t) (source.enter (Some d) (source.run_with call n) vs xs s) (then_do (enter (Some h) (λ k. run_with k.cell other n k.offsets k.body) vs (world_of s)) targets_set)
  entered_alike d h is =
      let Inside = Holds is.number is.t in
      subst (λ (k : Callable ℕ). FollowsSource (Holds number t) (source.enter (Some d) (source.run_with call n) vs xs s) (then_do (enter (Some k) (λ k. run_with k.cell other n k.offsets k.body) vs (world_of s)) targets_set)) (sym is.is)
      (spend_follows (Holds number t) targets_set s.fuel s _ _ (λ e.
      after_body (Holds number t) targets_set Inside _ _
      (body_follows ar is.number function is.t call other is.numbering (inner is.number is.t is.numbering) n d.body d.offsets (source.entered d vs (record s { fuel = e })) (set_all Slot (map is.number d.params) vs no_cells) is.suits
      (record { at = (set_all_holds is.number is.t is.numbering d.params vs (record s { variables = maps.no_variables }) no_cells is.params (is.param_count ∙ sym param_count) (record { at = λ x lt. refl })).at }))
      (λ u b g'. results_follow (Holds number t) targets_set u _ _ (values_in u (map Variable d.results)) (values Slot (map is.number d.results) b)
      (λ rs e'. results_read is.number is.t d.results u b rs is.results g' e')
      (λ rs e'. both_go (record { at = (set_all_holds number t one xs rs s a below (result_count ∙ sym is.result_count ∙ sym (results_length d.results u.variables u.memory rs e')) g).at })))))

  enter_alike : {o : Option source.Callable} {q : Option (Callable ℕ)} → FoundAlike ar function f o q
      → FollowsSource (Holds number t) (source.enter o (source.run_with call n) vs xs s) (then_do (enter q (λ k. run_with k.cell other n k.offsets k.body) vs (world_of s)) targets_set)
  enter_alike neither = both_stop
  enter_alike (both d h is) = entered_alike d h is

pub calls_alike : (ar : Arities) (function : Text → ℕ) (p : List source.Callable) (q : List (Callable ℕ)) → ((f : Text) → FoundAlike ar function f (source.callee p f) (slice_get q (function f)))
    → (n : ℕ) (number : Text → ℕ) (t : ℕ) → IsNumbering number t → CallsAlike ar number function t (source.calls p n) (calls q n)
calls_alike ar function p q found zero number t one f vs xs s a below results params g = both_stop
calls_alike ar function p q found (suc n) number t one f vs xs s a below results params g =
    enter_alike ar function (source.calls p n) (calls q n) n (calls_alike ar function p q found n) number t one f vs xs s a below results params g (found f)
