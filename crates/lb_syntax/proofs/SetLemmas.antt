-- The set of names of a list, as a list without repeats.
use Rattle.std.proofs.Common.{◌≡◌, ◌+◌, Bool, true, false, not, ◌&&◌, ◌||◌, List, [], ◌∷◌, length, refl, sym, ap, ◌∙◌, if◌then◌else◌, arith}
use Rattle.std.specs.Str.{bytes_eq}
use Rattle.lb_syntax.specs.Names.{Text, is_among, AreDistinct}
use Rattle.lb_syntax.specs.Needs.{distinct}
use Rattle.lb_syntax.proofs.DistinctLemmas.{bytes_eq-same, bytes_eq-refl}

-- the names without this one, where it stands first
abbrev removed : Text → List Text → List Text
removed x [] = []
removed x (y ∷ ys) = if bytes_eq y x then ys else y ∷ removed x ys

length_step : (b : Bool) (y : Text) (ys rest : List Text) → (b ≡ false → length ys ≡ length rest + 1) → length (y ∷ ys) ≡ length (if b then ys else y ∷ rest) + 1
length_step true y ys rest h = omega arith
length_step false y ys rest h = let e = h refl in omega (arith, e)

among_rest : (b : Bool) (m : Bool) → (b || m) ≡ true → b ≡ false → m ≡ true
among_rest true m h e = cc
among_rest false m h e = h

length-removed : (x : Text) (s : List Text) → is_among s x ≡ true → length s ≡ length (removed x s) + 1
length-removed x [] h = cc
length-removed x (y ∷ ys) h = length_step (bytes_eq y x) y ys (removed x ys) (λ e. length-removed x ys (among_rest (bytes_eq y x) (is_among ys x) h e))

and_true : (m : Bool) → (m && true) ≡ m
and_true true = refl
and_true false = refl

and_false : (m : Bool) → (m && false) ≡ false
and_false true = refl
and_false false = refl

-- b: the head is the name that goes; e: it is the one that is sought; f: the head is; m: the rest has the one that is sought
removed_step : (b e f m : Bool) (y : Text) (ys rest : List Text) (z : Text) → f ≡ bytes_eq y z → m ≡ is_among ys z → is_among rest z ≡ (m && not e)
    → (b ≡ true → f ≡ e) → (b ≡ true → e ≡ true → m ≡ false) → (b ≡ false → e ≡ true → f ≡ false)
    → is_among (if b then ys else y ∷ rest) z ≡ ((f || m) && not e)
removed_step true true f m y ys rest z p q r same gone other = sym q ∙ gone refl refl ∙ sym (and_false (f || m))
removed_step true false f m y ys rest z p q r same gone other = sym q ∙ sym (and_true (f || m) ∙ ap (λ c. c || m) (same refl))
removed_step false true f m y ys rest z p q r same gone other =
    ap (λ c. c || is_among rest z) (sym p ∙ other refl refl) ∙ r ∙ and_false m ∙ sym (and_false (f || m))
removed_step false false f m y ys rest z p q r same gone other =
    ap (λ c. c || is_among rest z) (sym p) ∙ ap (λ c. f || c) (r ∙ and_true m) ∙ sym (and_true (f || m))

is_among-removed : (x : Text) (s : List Text) (z : Text) → AreDistinct s → is_among (removed x s) z ≡ (is_among s z && not (bytes_eq x z))
is_among-removed x [] z d = refl
is_among-removed x (y ∷ ys) z d =
    removed_step (bytes_eq y x) (bytes_eq x z) (bytes_eq y z) (is_among ys z) y ys (removed x ys) z refl refl (is_among-removed x ys z d.1)
    (λ b. ap (λ w. bytes_eq w z) (bytes_eq-same y x b))
    (λ b e. ap (λ w. is_among ys w) (sym (bytes_eq-same y x b ∙ bytes_eq-same x z e)) ∙ d.0)
    (λ b e. ap (λ w. bytes_eq y w) (sym (bytes_eq-same x z e)) ∙ b)

distinct_step : (b : Bool) (y : Text) (ys rest : List Text) → AreDistinct ys → AreDistinct rest → is_among rest y ≡ false → AreDistinct (if b then ys else y ∷ rest)
distinct_step true y ys rest d r h = d
distinct_step false y ys rest d r h = (h, r)

AreDistinct-removed : (x : Text) (s : List Text) → AreDistinct s → AreDistinct (removed x s)
AreDistinct-removed x [] d = tt
AreDistinct-removed x (y ∷ ys) d =
    distinct_step (bytes_eq y x) y ys (removed x ys) d.1 (AreDistinct-removed x ys d.1)
    (is_among-removed x ys y d.1 ∙ ap (λ c. c && not (bytes_eq x y)) d.0)

or_absorbed : (e m : Bool) → (e ≡ true → m ≡ true) → (e || m) ≡ m
or_absorbed true m h = sym (h refl)
or_absorbed false m h = refl

left_out : (e m : Bool) → (e ≡ true → m ≡ false) → ((e || m) && not e) ≡ m
left_out true m h = sym (h refl)
left_out false m h = and_true m

-- the set of one name more, where b says that it is among the names already
size_step : (b : Bool) (x : Text) (names set : List Text) → b ≡ is_among names x → AreDistinct set
    → ((y : Text) → is_among set y ≡ (bytes_eq x y || is_among names y))
    → ((s : List Text) → AreDistinct s → ((y : Text) → is_among s y ≡ is_among names y) → distinct names ≡ length s)
    → (if b then distinct names else distinct names + 1) ≡ length set
size_step true x names set q d h rest =
    rest set d (λ y. h y ∙ or_absorbed (bytes_eq x y) (is_among names y) (λ e. ap (λ w. is_among names w) (sym (bytes_eq-same x y e)) ∙ sym q))
size_step false x names set q d h rest =
    let member : is_among set x ≡ true = h x ∙ ap (λ c. c || is_among names x) (bytes_eq-refl x) in
    let smaller = rest (removed x set) (AreDistinct-removed x set d) (λ y.
    is_among-removed x set y d
    ∙ ap (λ c. c && not (bytes_eq x y)) (h y)
    ∙ left_out (bytes_eq x y) (is_among names y) (λ e. ap (λ w. is_among names w) (sym (bytes_eq-same x y e)) ∙ sym q)) in
    omega (arith, smaller, length-removed x set member)

-- the number of different names is the size of each set that has just these names
pub distinct-size : (names set : List Text) → AreDistinct set → ((x : Text) → is_among set x ≡ is_among names x) → distinct names ≡ length set
distinct-size [] [] d h = refl
distinct-size [] (x ∷ set) d h = let e : true ≡ false = sym (ap (λ c. c || is_among set x) (bytes_eq-refl x)) ∙ h x in cc
distinct-size (x ∷ names) set d h = size_step (is_among names x) x names set refl d h (distinct-size names)
