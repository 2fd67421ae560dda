-- What a walk over a list of faults tells, part by part.
use Rattle.std.proofs.Common.{◌≡◌, List, [], ◌∷◌, ◌++◌, sym, ap, ◌∙◌, subst, refl, map}
use Rattle.std.specs.Prelude.{Result, Err, Some, None, flat_map, slice_get}
use Rattle.std.proofs.lemmas.Grind.{flat_map-append}
use Rattle.lb_syntax.specs.Names.{Text}
use Rattle.lb_syntax.specs.Tree.{Term, Command, Chooses}
use Rattle.lb_check.specs.declared.fault.CheckFault.{CheckFault}
use Rattle.lb_check.specs.declared.fault.CheckError.{CheckError}
use Rattle.lb_check.specs.declared.fault.CheckError.TheVariants.{Fault, Memory}
use Rattle.lb_check.specs.Order.{commands}
use Rattle.lb_check.specs.Verdict.{IsFirst}
use Rattle.lb_check.specs.InternalVerdict.{Tells}

pub tells_same : (xs ys : List CheckFault) (r : Result (Unit {0}) CheckError) → xs ≡ ys → Tells ys r → Tells xs r
tells_same xs ys r e h = subst (λ (zs : List CheckFault). Tells zs r) (sym e) h

-- the first of the front is the first of all
pub tells_front : (xs ys : List CheckFault) (e : CheckError) → Tells xs (Err e) → Tells (xs ++ ys) (Err e)
tells_front [] ys (Fault f) h = absurd h
tells_front (x ∷ xs) ys (Fault f) h = h
tells_front xs ys Memory h = tt

-- where there is none in front
pub tells_rest : (xs ys : List CheckFault) (r : Result (Unit {0}) CheckError) → xs ≡ [] → Tells ys r → Tells (xs ++ ys) r
tells_rest xs ys r none h = subst (λ (zs : List CheckFault). Tells (zs ++ ys) r) (sym none) h

-- the faults of `if`: its own, and those of its blocks
if_list : (F : Command → List CheckFault) (c : Command) (e : Term) (b d : Command) → c ≡ Chooses e b d → F c ≡ []
    → flat_map F (commands c) ≡ flat_map F (commands b) ++ flat_map F (commands d)
if_list F c e b d is none =
    ap (λ (x : Command). flat_map F (commands x)) is
    ∙ ap (λ (xs : List CheckFault). xs ++ flat_map F (commands b ++ commands d)) (ap F (sym is) ∙ none)
    ∙ flat_map-append F (commands b) (commands d)

pub if_front : (F : Command → List CheckFault) (c : Command) (e : Term) (b d : Command) (r : CheckError)
    → c ≡ Chooses e b d → F c ≡ [] → Tells (flat_map F (commands b)) (Err r) → Tells (flat_map F (commands c)) (Err r)
if_front F c e b d r is none h =
    tells_same (flat_map F (commands c)) (flat_map F (commands b) ++ flat_map F (commands d)) (Err r) (if_list F c e b d is none)
    (tells_front (flat_map F (commands b)) (flat_map F (commands d)) r h)

pub if_rest : (F : Command → List CheckFault) (c : Command) (e : Term) (b d : Command) (r : Result (Unit {0}) CheckError)
    → c ≡ Chooses e b d → F c ≡ [] → flat_map F (commands b) ≡ [] → Tells (flat_map F (commands d)) r → Tells (flat_map F (commands c)) r
if_rest F c e b d r is none first h =
    tells_same (flat_map F (commands c)) (flat_map F (commands b) ++ flat_map F (commands d)) r (if_list F c e b d is none)
    (tells_rest (flat_map F (commands b)) (flat_map F (commands d)) r first h)

-- the first of a list in which each name tells a fault
pub none_told : (F : Text → CheckFault) (xs : List Text) → None ≡ slice_get xs 0 → map F xs ≡ []
none_told F [] h = refl
none_told F (x ∷ xs) h = cc

pub first_told : (F : Text → CheckFault) (xs : List Text) (x : Text) → Some x ≡ slice_get xs 0 → IsFirst (map F xs) (F x)
first_told F [] x h = cc
first_told F (y ∷ xs) x h = let e : x ≡ y = cc in ap F e
