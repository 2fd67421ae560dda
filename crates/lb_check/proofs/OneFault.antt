-- The fault for which a program is refused is the only one that it is refused for.
use Rattle.std.proofs.Common.{◌≡◌, inl, inr, List, [], ◌∷◌, ◌++◌, sym, ap, ◌∙◌, subst, arith, All}
use Rattle.std.proofs.lemmas.List.Elements.{All-head, All-tail}
use Rattle.lb_syntax.specs.Tree.{Procedure}
use Rattle.lb_syntax.specs.Calls.{IsRecursive}
use Rattle.lb_syntax.proofs.StackLemmas.{one_stack_need}
use Rattle.lb_check.specs.declared.fault.CheckFault.{CheckFault}
use Rattle.lb_check.specs.declared.fault.CheckFault.TheVariants.{Recursion, StackNeed}
use Rattle.lb_check.specs.Faults.{faults}
use Rattle.lb_check.specs.Verdict.{Question, Keeps, NoRecursion, FitsStack, IsKept, IsFirst, IsBroken, IsFirstBroken, questions}
use Rattle.lb_check.specs.Laws.{OneFault}

one_first : (fs : List CheckFault) (f g : CheckFault) → IsFirst fs f → IsFirst fs g → f ≡ g
one_first [] f g h k = absurd h
one_first (x ∷ fs) f g h k = h ∙ sym k

none_first : (fs : List CheckFault) (f : CheckFault) → fs ≡ [] → IsFirst fs f → ⊥
none_first [] f e h = absurd h
none_first (x ∷ fs) f e h = cc

-- of a list's elements with a property the first is one
one_earliest : {A : Type 0} (P : A → Type 0) (before ahead : List A) (x y : A) (xs ys : List A) → before ++ (x ∷ xs) ≡ ahead ++ (y ∷ ys)
    → All (λ z. ¬ (P z)) before → P x → All (λ z. ¬ (P z)) ahead → P y → x ≡ y
one_earliest P [] [] x y xs ys e none p other q = cc
one_earliest P [] (z ∷ ahead) x y xs ys e none p other q = absurd (All-head (λ u. ¬ (P u)) z ahead other (subst P (cc) p))
one_earliest P (z ∷ before) [] x y xs ys e none p other q = absurd (All-head (λ u. ¬ (P u)) z before none (subst P (cc) q))
one_earliest P (z ∷ before) (w ∷ ahead) x y xs ys e none p other q =
    one_earliest P before ahead x y xs ys (cc) (All-tail (λ u. ¬ (P u)) z before none) p (All-tail (λ u. ¬ (P u)) w ahead other) q

middle : {A : Type 0} (Q : A → Type 0) (before : List A) (x : A) (xs : List A) → All Q (before ++ (x ∷ xs)) → Q x
middle Q [] x xs h = All-head Q x xs h
middle Q (z ∷ before) x xs h = middle Q before x xs (All-tail Q z (before ++ (x ∷ xs)) h)

module _ (p : List Procedure) where
  one_broken : (q : Question) (f g : CheckFault) → IsBroken p q f → IsBroken p q g → f ≡ g
  one_broken (Keeps rule) f g h k = one_first (faults rule p) f g h k
  one_broken NoRecursion f g (a, h, e) (b, k, d) =
      e ∙ ap (λ (r : Procedure). Recursion r.name) (one_earliest (IsRecursive p) h.earlier k.earlier a b h.later k.later (sym h.order ∙ k.order) h.none_earlier h.recursive k.none_earlier k.recursive) ∙ sym d
  one_broken FitsStack f g (m, h, over, e) (n, k, more, d) = e ∙ ap StackNeed (one_stack_need p m n h k) ∙ sym d

  kept_not_broken : (q : Question) (f : CheckFault) → IsKept p q → IsBroken p q f → ⊥
  kept_not_broken (Keeps rule) f kept h = none_first (faults rule p) f kept h
  kept_not_broken NoRecursion f kept (a, h, e) =
      middle (λ (r : Procedure). ¬ (IsRecursive p r)) h.earlier a h.later (subst (All (λ (r : Procedure). ¬ (IsRecursive p r))) h.order kept) h.recursive
  kept_not_broken FitsStack f kept (n, h, over, e) = let fits = kept h.path h.is_path in absurd (omega (arith, fits, h.taken, over))

  one_first_broken : (qs : List Question) (f g : CheckFault) → IsFirstBroken p qs f → IsFirstBroken p qs g → f ≡ g
  one_first_broken [] f g h k = absurd h
  one_first_broken (q ∷ qs) f g (inl h) (inl k) = one_broken q f g h k
  one_first_broken (q ∷ qs) f g (inl h) (inr k) = absurd (kept_not_broken q f k.0 h)
  one_first_broken (q ∷ qs) f g (inr h) (inl k) = absurd (kept_not_broken q g h.0 k)
  one_first_broken (q ∷ qs) f g (inr h) (inr k) = one_first_broken qs f g h.1 k.1

pub one_fault : OneFault
one_fault p f g h k = one_first_broken p questions f g h k
