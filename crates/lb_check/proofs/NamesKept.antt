-- Names that don't come twice, and names that are among others.
use Rattle.std.proofs.Common.{◌≡◌, zero, suc, Bool, true, false, ◌||◌, List, [], ◌∷◌, map, refl, sym, ap, ◌∙◌, arith, Contains}
use Rattle.std.specs.Prelude.{if◌then◌else◌}
use Rattle.std.specs.Str.{bytes_eq}
use Rattle.lb_syntax.specs.Names.{Text, is_among, AreDistinct}
use Rattle.lb_syntax.proofs.DistinctLemmas.{bytes_eq-same, bytes_eq-refl}
use Rattle.lb_check.specs.Order.{repeated, repeated_after}
use Rattle.lb_check.proofs.NoFaults.{not_true, neither, from_neither, either, or_right}

-- none of these names is among the others
abbrev AreApart : List Text → List Text → Type 0
AreApart earlier xs = (y : Text) → is_among earlier y ≡ true → is_among xs y ≡ false

kept_step : (b : Bool) (x : Text) (rest : List Text) → (if b then x ∷ rest else rest) ≡ [] → (b ≡ false) × (rest ≡ [])
kept_step true x rest h = absurd (cc)
kept_step false x rest h = (refl, h)

step_kept : (b : Bool) (x : Text) (rest : List Text) → b ≡ false → rest ≡ [] → (if b then x ∷ rest else rest) ≡ []
step_kept true x rest h k = cc
step_kept false x rest h k = k

distinct_after : (earlier xs : List Text) → repeated_after earlier xs ≡ [] → AreDistinct xs × AreApart earlier xs
distinct_after earlier [] h = (tt, λ y k. refl)
distinct_after earlier (x ∷ xs) h =
    let b = kept_step (is_among earlier x) x (repeated_after (x ∷ earlier) xs) h in
    let r = distinct_after (x ∷ earlier) xs b.1 in (
      (r.1 x (ap (λ e. e || is_among earlier x) (bytes_eq-refl x)), r.0),
      λ y k.
          from_neither (bytes_eq x y) (is_among xs y)
          (not_true (bytes_eq x y) (λ e. let f : false ≡ true = sym b.0 ∙ ap (λ z. is_among earlier z) (bytes_eq-same x y e) ∙ k in cc))
          (r.1 y (or_right (bytes_eq x y) (is_among earlier y) k)),
    )

apart_more : (b : Bool) (earlier : List Text) (x : Text) (xs : List Text) (y : Text) → b ≡ bytes_eq x y → is_among xs x ≡ false → (bytes_eq x y || is_among earlier y) ≡ true
    → (is_among earlier y ≡ true → is_among xs y ≡ false) → is_among xs y ≡ false
apart_more true earlier x xs y e d k a = ap (λ (z : Text). is_among xs z) (sym (bytes_eq-same x y (sym e))) ∙ d
apart_more false earlier x xs y e d k a = a (either (bytes_eq x y) (is_among earlier y) k (sym e))

after_distinct : (earlier xs : List Text) → AreDistinct xs → AreApart earlier xs → repeated_after earlier xs ≡ []
after_distinct earlier [] d a = refl
after_distinct earlier (x ∷ xs) d a =
    step_kept (is_among earlier x) x (repeated_after (x ∷ earlier) xs)
    (not_true (is_among earlier x) (λ e. let f : false ≡ true = sym (a x e) ∙ ap (λ b. b || is_among xs x) (bytes_eq-refl x) in cc))
    (after_distinct (x ∷ earlier) xs d.1 (λ y k. apart_more (bytes_eq x y) earlier x xs y refl d.0 k (λ e. (neither (bytes_eq x y) (is_among xs y) (a y e)).1)))

pub distinct_kept : (xs : List Text) → repeated xs ≡ [] → AreDistinct xs
distinct_kept xs h = (distinct_after [] xs h).0

pub kept_distinct : (xs : List Text) → AreDistinct xs → repeated xs ≡ []
kept_distinct xs d = after_distinct [] xs d (λ y k. cc)

pub map_none : {A B : Type 0} (F : A → B) (xs : List A) → map F xs ≡ [] → xs ≡ []
map_none F [] h = refl
map_none F (x ∷ xs) h = cc

pub none_map : {A B : Type 0} (F : A → B) (xs : List A) → xs ≡ [] → map F xs ≡ []
none_map F [] h = refl
none_map F (x ∷ xs) h = cc

contains_step : (b : Bool) (y : Text) (ys : List Text) (x : Text) → b ≡ bytes_eq y x → (b || is_among ys x) ≡ true → (is_among ys x ≡ true → Contains ys x) → Contains (y ∷ ys) x
contains_step true y ys x e h k = (0, (omega arith), bytes_eq-same y x (sym e))
contains_step false y ys x e h k = let r = k h in (suc r.0, (omega (arith, r.1)), r.2)

-- a name that is among the others is at some place
pub contains_among : (xs : List Text) (x : Text) → is_among xs x ≡ true → Contains xs x
contains_among [] x h = cc
contains_among (y ∷ ys) x h = contains_step (bytes_eq y x) y ys x refl h (contains_among ys x)

pub among_contains : (xs : List Text) (x : Text) → Contains xs x → is_among xs x ≡ true
among_contains [] x (k, lt, is) = absurd (omega arith)
among_contains (y ∷ ys) x (zero, lt, is) = ap (λ (z : Text). bytes_eq z x || is_among ys x) is ∙ ap (λ b. b || is_among ys x) (bytes_eq-refl x)
among_contains (y ∷ ys) x (suc k, lt, is) = or_right (bytes_eq y x) (is_among ys x) (among_contains ys x (k, (omega (arith, lt)), is))
