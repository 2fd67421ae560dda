-- What a walk over questions settles, part by part.
use Rattle.std.proofs.Common.{◌≡◌, ℕ, ◌+◌, ◌<◌, inl, inr, List, [], ◌∷◌, ◌++◌, length, map, get_or, drop, sym, subst}
use Rattle.std.specs.Prelude.{Err}
use Rattle.std.specs.List.{AllByRecursion}
use Rattle.std.proofs.lemmas.List.{at_drop_more}
use Rattle.lb_syntax.specs.Tree.{Procedure}
use Rattle.lb_check.specs.declared.fault.CheckFault.{CheckFault}
use Rattle.lb_check.specs.declared.fault.CheckError.{CheckError}
use Rattle.lb_check.specs.declared.fault.CheckError.TheVariants.{Fault, Memory}
use Rattle.lb_check.specs.declared.rule.Rule.{Rule}
use Rattle.lb_check.specs.Faults.{faults}
use Rattle.lb_check.specs.Verdict.{Question, Keeps, IsKept, IsFirstBroken}
use Rattle.lb_check.specs.InternalVerdict.{Tells, Settles}

rules_next : (rules : List Rule) (i : ℕ) (d : Rule) → i < length rules → map Keeps (drop i rules) ≡ Keeps (get_or rules i d) ∷ map Keeps (drop (i + 1) rules)
rules_next rules i d h = at_drop_more (map Keeps) rules i d h

-- a rule that is kept
pub kept_more : (p : List Procedure) (rules : List Rule) (i : ℕ) (d : Rule) → i < length rules → faults (get_or rules i d) p ≡ []
    → (AllByRecursion (IsKept p) (map Keeps (drop i rules)) → AllByRecursion (IsKept p) (map Keeps rules))
    → AllByRecursion (IsKept p) (map Keeps (drop (i + 1) rules)) → AllByRecursion (IsKept p) (map Keeps rules)
kept_more p rules i d h none before kept = before (subst (AllByRecursion (IsKept p)) (sym (rules_next rules i d h)) (none, kept))

pub broken_more : (p : List Procedure) (rules : List Rule) (i : ℕ) (d : Rule) → i < length rules → faults (get_or rules i d) p ≡ []
    → ((fault : CheckFault) → IsFirstBroken p (map Keeps (drop i rules)) fault → IsFirstBroken p (map Keeps rules) fault)
    → (fault : CheckFault) → IsFirstBroken p (map Keeps (drop (i + 1) rules)) fault → IsFirstBroken p (map Keeps rules) fault
broken_more p rules i d h none before fault broken =
    before fault (subst (λ (qs : List Question). IsFirstBroken p qs fault) (sym (rules_next rules i d h)) (inr (none, broken)))

-- a rule that is broken
pub settles_here : (p : List Procedure) (rules : List Rule) (i : ℕ) (d : Rule) (e : CheckError) → i < length rules
    → ((fault : CheckFault) → IsFirstBroken p (map Keeps (drop i rules)) fault → IsFirstBroken p (map Keeps rules) fault)
    → Tells (faults (get_or rules i d) p) (Err e) → Settles p (map Keeps rules) (Err e)
settles_here p rules i d (Fault fault) h before told =
    before fault (subst (λ (qs : List Question). IsFirstBroken p qs fault) (sym (rules_next rules i d h)) (inl told))
settles_here p rules i d Memory h before told = tt

-- questions behind others
pub broken_front : (p : List Procedure) (qs rs : List Question) (fault : CheckFault) → IsFirstBroken p qs fault → IsFirstBroken p (qs ++ rs) fault
broken_front p [] rs fault h = absurd h
broken_front p (q ∷ qs) rs fault (inl h) = inl h
broken_front p (q ∷ qs) rs fault (inr h) = inr (h.0, broken_front p qs rs fault h.1)

pub broken_behind : (p : List Procedure) (qs rs : List Question) (fault : CheckFault) → AllByRecursion (IsKept p) qs → IsFirstBroken p rs fault → IsFirstBroken p (qs ++ rs) fault
broken_behind p [] rs fault k h = h
broken_behind p (q ∷ qs) rs fault k h = inr (k.0, broken_behind p qs rs fault k.1 h)

pub kept_both : (p : List Procedure) (qs rs : List Question) → AllByRecursion (IsKept p) qs → AllByRecursion (IsKept p) rs → AllByRecursion (IsKept p) (qs ++ rs)
kept_both p [] rs k h = h
kept_both p (q ∷ qs) rs k h = (k.0, kept_both p qs rs k.1 h)

pub kept_front : (p : List Procedure) (qs rs : List Question) → AllByRecursion (IsKept p) (qs ++ rs) → AllByRecursion (IsKept p) qs
kept_front p [] rs k = tt
kept_front p (q ∷ qs) rs k = (k.0, kept_front p qs rs k.1)

pub kept_behind : (p : List Procedure) (qs rs : List Question) → AllByRecursion (IsKept p) (qs ++ rs) → AllByRecursion (IsKept p) rs
kept_behind p [] rs k = k
kept_behind p (q ∷ qs) rs k = kept_behind p qs rs k.1
