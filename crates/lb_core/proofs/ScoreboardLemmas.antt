-- The scoreboard, and the marks of what is served.
use Rattle.std.proofs.Common.{◌≡◌, ℕ, Bool, true, false, not, ◌&&◌, List, [], ◌∷◌, ◌++◌, map, Option, Some, None, refl, ap, ◌∙◌}
use Rattle.std.specs.List.{AllByRecursion}
use Rattle.std.proofs.lemmas.Bool.{and_parts}
use Rattle.lb_rv.specs.declared.instr.Instr.{Instr}
use Rattle.lb_outcome.specs.declared.types.Outcome.{Outcome}
use Rattle.lb_outcome.specs.declared.types.Outcome.TheVariants.{Plain, Load, Store, Halt}
use Rattle.lb_exec.specs.declared.item.DecodeItem.{DecodeItem}
use Rattle.lb_core.specs.Rows.{is_front_served}
use Rattle.lb_core.specs.Scoreboard.{item_destination, outcome_destination, uses, uses_none}
use Rattle.lb_core.specs.Stands.{IsUnserved, OnlyFrontServed, NoneUses, Apart}
use Rattle.lb_core.proofs.Tools.{not_true, all_snoc}

-- ---- what a free instruction doesn't use

pub free_of_outcomes : (i : Option Instr) (os : List Outcome) (rs : List ℕ) → uses_none i (map outcome_destination os ++ rs) ≡ true
    → AllByRecursion (λ o. uses i (outcome_destination o) ≡ false) os
free_of_outcomes i [] rs h = tt
free_of_outcomes i (o ∷ os) rs h =
    let p = and_parts (not (uses i (outcome_destination o))) (uses_none i (map outcome_destination os ++ rs)) h in
    (not_true _ p.0, free_of_outcomes i os rs p.1)

pub free_of_rest : (i : Option Instr) (os : List Outcome) (rs : List ℕ) → uses_none i (map outcome_destination os ++ rs) ≡ true → uses_none i rs ≡ true
free_of_rest i [] rs h = h
free_of_rest i (o ∷ os) rs h =
    free_of_rest i os rs (and_parts (not (uses i (outcome_destination o))) (uses_none i (map outcome_destination os ++ rs)) h).1

pub free_of_items : (i : Option Instr) (ds : List DecodeItem) → uses_none i (map item_destination ds) ≡ true
    → AllByRecursion (λ d. uses i (item_destination d) ≡ false) ds
free_of_items i [] h = tt
free_of_items i (d ∷ ds) h =
    let p = and_parts (not (uses i (item_destination d))) (uses_none i (map item_destination ds)) h in (not_true _ p.0, free_of_items i ds p.1)

-- two lists of registers
pub uses_none_append : (i : Option Instr) (rs ss : List ℕ) → uses_none i (rs ++ ss) ≡ (uses_none i rs && uses_none i ss)
uses_none_append i [] ss = refl
uses_none_append i (r ∷ rs) ss = ap (λ b. not (uses i r) && b) (uses_none_append i rs ss) ∙ regroup (not (uses i r)) (uses_none i rs) (uses_none i ss)
  where
    regroup : (a b c : Bool) → (a && (b && c)) ≡ ((a && b) && c)
    regroup true b c = refl
    regroup false b c = refl

-- ---- one more decoded item

pub clear_decoded : (os : List Outcome) (ds : List DecodeItem) (d : DecodeItem) → AllByRecursion (λ o. NoneUses (outcome_destination o) ds) os
    → AllByRecursion (λ o. uses d.instruction (outcome_destination o) ≡ false) os
    → AllByRecursion (λ o. NoneUses (outcome_destination o) (ds ++ d ∷ [])) os
clear_decoded [] ds d h n = tt
clear_decoded (o ∷ os) ds d h n =
    (all_snoc (λ x. uses x.instruction (outcome_destination o) ≡ false) ds d h.0 n.0, clear_decoded os ds d h.1 n.1)

pub apart_decoded : (ds : List DecodeItem) (d : DecodeItem) → Apart ds → AllByRecursion (λ x. uses d.instruction (item_destination x) ≡ false) ds
    → Apart (ds ++ d ∷ [])
apart_decoded [] d h n = (tt, tt)
apart_decoded (x ∷ ds) d h n = (all_snoc (λ y. uses y.instruction (item_destination x) ≡ false) ds d h.0 n.0, apart_decoded ds d h.1 n.1)

-- ---- marks

store_unserved : (i : Instr) (a v : ℕ) (mmio served : Bool) → IsUnserved (Store i a v mmio served) → served ≡ false
store_unserved i a v mmio served h = cc h

pub unserved_front : (os : List Outcome) → AllByRecursion IsUnserved os → is_front_served os ≡ false
unserved_front [] h = refl
unserved_front (Plain rd v ∷ os) h = refl
unserved_front (Load i a mmio None ∷ os) h = refl
unserved_front (Load i a mmio (Some v) ∷ os) h = absurd (cc h.0)
unserved_front (Store i a v mmio served ∷ os) h = store_unserved i a v mmio served h.0
unserved_front (Halt cause ∷ os) h = refl

pub unserved_marks : (os : List Outcome) → AllByRecursion IsUnserved os → OnlyFrontServed os
unserved_marks [] h = tt
unserved_marks (o ∷ os) h = h.1

front_same : (o : Outcome) (os more : List Outcome) → is_front_served (o ∷ os ++ more) ≡ is_front_served (o ∷ os)
front_same (Plain rd v) os more = refl
front_same (Load i a mmio None) os more = refl
front_same (Load i a mmio (Some v)) os more = refl
front_same (Store i a v mmio served) os more = refl
front_same (Halt cause) os more = refl

-- one more outcome
pub front_snoc : (os : List Outcome) (o : Outcome) → IsUnserved o → is_front_served (os ++ o ∷ []) ≡ is_front_served os
front_snoc [] o h = unserved_front (o ∷ []) (h, tt)
front_snoc (p ∷ os) o h = front_same p os (o ∷ [])

pub marks_snoc : (os : List Outcome) (o : Outcome) → IsUnserved o → OnlyFrontServed os → OnlyFrontServed (os ++ o ∷ [])
marks_snoc [] o h m = tt
marks_snoc (p ∷ os) o h m = all_snoc IsUnserved os o m h
