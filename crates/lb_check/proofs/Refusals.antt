-- A refusal, from the part that it comes from.
use Rattle.std.proofs.Common.{ℕ, ◌≤◌, inl, inr, List, [], ◌∷◌, ◌++◌, map, refl, sym, subst, arith, Contains}
use Rattle.std.specs.Prelude.{Err}
use Rattle.std.specs.List.{AllByRecursion}
use Rattle.std.proofs.lemmas.List.Elements.{All-contains, recursion_from_All, Contains-append_right}
use Rattle.lb_syntax.specs.declared.limits.TheConstants.{MOST_FRAME}
use Rattle.lb_memory.specs.declared.TheConstants.{MOST_STACK}
use Rattle.lb_syntax.specs.Tree.{Procedure}
use Rattle.lb_syntax.specs.Needs.{frame_need}
use Rattle.lb_syntax.specs.Calls.{IsRecursive, IsStackNeed}
use Rattle.lb_syntax.specs.Rules.{KeepsRules}
use Rattle.lb_check.specs.declared.fault.CheckFault.{CheckFault}
use Rattle.lb_check.specs.declared.fault.CheckError.{CheckError}
use Rattle.lb_check.specs.declared.fault.CheckError.TheVariants.{Fault, Memory}
use Rattle.lb_check.specs.declared.rule.FunctionRule.TheVariants.{FrameNeed}
use Rattle.lb_check.specs.Faults.{function_faults}
use Rattle.lb_check.specs.Verdict.{Question, Keeps, NoRecursion, FitsStack, form_rules, need_rules, questions, IsKept, IsFirst, IsBroken, IsFirstBroken, IsFirstFault, IsRefusal}
use Rattle.lb_check.specs.InternalVerdict.{Settles}
use Rattle.lb_check.proofs.NoFaults.{all_from_none}
use Rattle.lb_check.proofs.FunctionsKept.{frame_kept}
use Rattle.lb_check.proofs.RulesKept.{rules_kept, kept_rules}
use Rattle.lb_check.proofs.Settled.{broken_front, broken_behind, kept_both}

-- no question is answered with yes and with no
not_both : (p : List Procedure) (q : Question) (fault : CheckFault) → IsBroken p q fault → IsKept p q → ⊥
not_both p (Keeps rule) fault h k = subst (λ (fs : List CheckFault). IsFirst fs fault) k h
not_both p NoRecursion fault (f, r, e) k =
    let there : Contains p f = subst (λ (fs : List Procedure). Contains fs f) (sym r.order) (Contains-append_right r.earlier (f ∷ r.later) f (0, (omega arith), refl)) in
    All-contains (λ g. ¬ (IsRecursive p g)) p f k there r.recursive
not_both p FitsStack fault (n, need, more, e) k = let most = k need.path need.is_path in absurd (omega (arith, most, more, need.taken))

none_broken : (p : List Procedure) (qs : List Question) (fault : CheckFault) → IsFirstBroken p qs fault → AllByRecursion (IsKept p) qs → ⊥
none_broken p [] fault h k = h
none_broken p (q ∷ qs) fault (inl h) k = not_both p q fault h k.0
none_broken p (q ∷ qs) fault (inr h) k = none_broken p qs fault h.1 k.1

-- a first fault, of a program that doesn't keep the rules
pub refusal : (p : List Procedure) (fault : CheckFault) → IsFirstFault p fault → IsRefusal p (Fault fault)
refusal p fault h = (h, λ r. none_broken p questions fault h (kept_rules p r))

module _ (p : List Procedure) where
  abbrev AllKept : List Question → Type 0
  AllKept qs = AllByRecursion (IsKept p) qs

  abbrev form : List Question
  form = map Keeps form_rules

  abbrev needs : List Question
  needs = map Keeps need_rules

  -- the questions of each part
  pub refused_form : (e : CheckError) → Settles p (map Keeps form_rules) (Err e) → IsRefusal p e
  refused_form (Fault fault) h = refusal p fault (broken_front p form (NoRecursion ∷ (needs ++ FitsStack ∷ [])) fault h)
  refused_form Memory h = tt

  pub refused_ends : (e : CheckError) → AllByRecursion (IsKept p) (map Keeps form_rules) → Settles p (NoRecursion ∷ []) (Err e) → IsRefusal p e
  refused_ends (Fault fault) k h =
      refusal p fault (broken_behind p form (NoRecursion ∷ (needs ++ FitsStack ∷ [])) fault k (broken_front p (NoRecursion ∷ []) (needs ++ FitsStack ∷ []) fault h))
  refused_ends Memory k h = tt

  pub refused_needs : (e : CheckError) → AllByRecursion (IsKept p) (map Keeps form_rules) → AllByRecursion (IsKept p) (NoRecursion ∷ [])
      → Settles p (map Keeps need_rules) (Err e) → IsRefusal p e
  refused_needs (Fault fault) k m h =
      refusal p fault (broken_behind p form (NoRecursion ∷ (needs ++ FitsStack ∷ [])) fault k
      (broken_behind p (NoRecursion ∷ []) (needs ++ FitsStack ∷ []) fault m (broken_front p needs (FitsStack ∷ []) fault h)))
  refused_needs Memory k m h = tt

  pub refused_stack : (e : CheckError) → AllByRecursion (IsKept p) (map Keeps form_rules) → AllByRecursion (IsKept p) (NoRecursion ∷ []) → AllByRecursion (IsKept p) (map Keeps need_rules)
      → Settles p (FitsStack ∷ []) (Err e) → IsRefusal p e
  refused_stack (Fault fault) k m l h =
      refusal p fault (broken_behind p form (NoRecursion ∷ (needs ++ FitsStack ∷ [])) fault k
      (broken_behind p (NoRecursion ∷ []) (needs ++ FitsStack ∷ []) fault m (broken_behind p needs (FitsStack ∷ []) fault l h)))
  refused_stack Memory k m l h = tt

  pub all_kept : AllByRecursion (IsKept p) (map Keeps form_rules) → AllByRecursion (IsKept p) (NoRecursion ∷ []) → AllByRecursion (IsKept p) (map Keeps need_rules)
      → IsKept p FitsStack → KeepsRules p
  all_kept k m l s = rules_kept p (kept_both p form (NoRecursion ∷ (needs ++ FitsStack ∷ [])) k (m.0, kept_both p needs (FitsStack ∷ []) l (s, tt)))

  pub small_frames : AllByRecursion (IsKept p) (map Keeps need_rules) → AllByRecursion (λ f. frame_need f ≤ MOST_FRAME) p
  small_frames k =
      recursion_from_All (λ (f : Procedure). frame_need f ≤ MOST_FRAME) p (all_from_none (function_faults FrameNeed) (λ (f : Procedure). frame_need f ≤ MOST_FRAME) p frame_kept k.0)

  pub stack_fits : (n : ℕ) → IsStackNeed p n → n ≤ MOST_STACK → IsKept p FitsStack
  stack_fits n need h path is_path = let most = need.greatest path is_path in omega (arith, most, h)
