-- A trace, followed event by event.
use Rattle.std.proofs.Common.{◌≡◌, ℕ, suc, ◌+◌, ◌≤◌, ◌<◌, List, [], ◌∷◌, ◌++◌, length, get_or, take, drop, Option, Some, None, IfSome, refl, sym, ap, ◌∙◌, subst, arith}
use Rattle.std.proofs.lemmas.List.{take_more, take_all, take-append-drop}
use Rattle.lb_trace.specs.declared.Event.{Event}
use Rattle.lb_grammar.specs.declared.progress.Progress.{Progress}
use Rattle.lb_grammar.specs.declared.progress.Progress.TheVariants.{Within, Done, Off}
use Rattle.lb_grammar.specs.declared.boot.Booting.TheVariants.{FirstPin}
use Rattle.lb_grammar.specs.declared.judging.Judging.{Judging}
use Rattle.lb_grammar.specs.declared.judging.Judging.TheVariants.{Boot}
use Rattle.lb_grammar.specs.Forms.{Begins}
use Rattle.lb_grammar.specs.Grammar.{good}
use Rattle.lb_grammar.specs.InternalMachine.{runs}
use Rattle.lb_grammar.specs.InternalJudging.{NoEnd, judge_step, judged, progress_of, rounds_of}
use Rattle.lb_grammar.specs.Rounds.{HasRounds}
use Rattle.lb_grammar.proofs.JudgeLemmas.{begins_good, off_is_no_prefix}
use Rattle.lb_grammar.proofs.RoundLemmas.{has_rounds}

-- the first i events lead to this state, which has as many rounds at most
pub record StandsAt (trace : List Event) (i : ℕ) (state : Judging) : Type 0 where
  pub leads : judged (take i trace) ≡ Within state
  pub few : rounds_of state ≤ i

off_stays : (l : List Event) → runs judge_step Off l ≡ Off
off_stays [] = refl
off_stays (e ∷ l) = refl

runs_append : (l m : List Event) (p : Progress Judging NoEnd) → runs judge_step p (l ++ m) ≡ runs judge_step (runs judge_step p l) m
runs_append [] m p = refl
runs_append (e ∷ l) m (Within s) = runs_append l m (judge_step s e)
runs_append (e ∷ l) m (Done x) = elim x [ ]
runs_append (e ∷ l) m Off = sym (off_stays m)

module _ (trace : List Event) (i : ℕ) (state : Judging) (stands : StandsAt trace i state) where
  pub stands_within : i < length trace → rounds_of state ≤ length trace
  stands_within h = omega (arith, h, stands.few)

  module _ (e : Event) (h : i < length trace) (result : Option Judging) (step : progress_of result ≡ judge_step state (get_or trace i e)) where
    next_event : judged (take (i + 1) trace) ≡ progress_of result
    next_event =
        ap judged (take_more trace i e h) ∙ runs_append (take i trace) (get_or trace i e ∷ []) (Within (Boot FirstPin))
        ∙ ap (λ p. runs judge_step p (get_or trace i e ∷ [])) stands.leads ∙ sym step

    pub stands_on : (next : Judging) → result ≡ Some next → IfSome result (λ s. rounds_of s ≤ rounds_of state + 1) → StandsAt trace (i + 1) next
    stands_on next is few =
        let up : rounds_of next ≤ rounds_of state + 1 = subst (λ r. IfSome r (λ s. rounds_of s ≤ rounds_of state + 1)) is few in
        record { leads = next_event ∙ ap progress_of is; few = omega (arith, up, stands.few) }

    module _ (is : result ≡ None) where
      off : judged (take (i + 1) trace) ≡ Off
      off = next_event ∙ ap progress_of is

      pub leaves : Begins good (take i trace) × ¬ (Begins good (take (suc i) trace))
      leaves =
          let place : i + 1 ≡ suc i = omega arith in
          (begins_good (take i trace) state stands.leads, off_is_no_prefix (take (suc i) trace) (subst (λ n. judged (take n trace) ≡ Off) place off))

      pub no_prefix : ¬ (Begins good trace)
      no_prefix =
          off_is_no_prefix trace
          (ap judged (sym (take-append-drop (i + 1) trace)) ∙ runs_append (take (i + 1) trace) (drop (i + 1) trace) (Within (Boot FirstPin))
          ∙ ap (λ p. runs judge_step p (drop (i + 1) trace)) off ∙ off_stays (drop (i + 1) trace))

  module _ (h : length trace ≤ i) where
    at_end : judged trace ≡ Within state
    at_end = ap judged (sym (take_all i trace h)) ∙ stands.leads

    pub is_prefix : Begins good trace
    is_prefix = begins_good trace state at_end

    pub rounds_are : (n : ℕ) → n ≡ rounds_of state → HasRounds n trace
    rounds_are n e = subst (λ m. HasRounds m trace) (sym e) (has_rounds trace state at_end)
