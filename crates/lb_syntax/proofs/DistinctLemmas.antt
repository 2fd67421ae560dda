-- One more name at the end of a list: what is among them, and how many different ones there are.
use Rattle.std.proofs.Common.{◌≡◌, ℕ, ◌+◌, Bool, true, false, ◌||◌, List, [], ◌∷◌, ◌++◌, refl, sym, ap, ◌∙◌, if◌then◌else◌}
use Rattle.std.specs.Str.{bytes_eq}
use Rattle.std.proofs.lemmas.Slice.Eq.{bytes_eq-Decides}
use Rattle.lb_syntax.specs.Names.{Text, is_among}
use Rattle.lb_syntax.specs.Needs.{distinct}

-- equal names are the same
pub bytes_eq-same : (x y : Text) → bytes_eq x y ≡ true → x ≡ y
bytes_eq-same x y e = (bytes_eq-Decides x y).0 e

pub bytes_eq-refl : (x : Text) → bytes_eq x x ≡ true
bytes_eq-refl x = (bytes_eq-Decides x x).1 refl

same_test : (x y : Text) (a b : Bool) → a ≡ bytes_eq x y → b ≡ bytes_eq y x → a ≡ b
same_test x y true true p q = refl
same_test x y false false p q = refl
same_test x y true false p q = sym (bytes_eq-refl x) ∙ ap (λ z. bytes_eq z x) (bytes_eq-same x y (sym p)) ∙ sym q
same_test x y false true p q = p ∙ ap (λ z. bytes_eq z y) (sym (bytes_eq-same y x (sym q))) ∙ bytes_eq-refl y

pub bytes_eq_comm : (x y : Text) → bytes_eq x y ≡ bytes_eq y x
bytes_eq_comm x y = same_test x y (bytes_eq x y) (bytes_eq y x) refl refl

or_or : (a b c : Bool) → (a || (b || c)) ≡ ((a || b) || c)
or_or true b c = refl
or_or false b c = refl

or_false : (a : Bool) → (a || false) ≡ a
or_false true = refl
or_false false = refl

-- what is among the names and one more
pub is_among-push : (xs : List Text) (x y : Text) → is_among (xs ++ x ∷ []) y ≡ (is_among xs y || bytes_eq x y)
is_among-push [] x y = or_false (bytes_eq x y)
is_among-push (z ∷ xs) x y = ap (λ b. bytes_eq z y || b) (is_among-push xs x y) ∙ or_or (bytes_eq z y) (is_among xs y) (bytes_eq x y)

-- e: the new name is the head; a and b: the new name and the head are in the rest; d: the different names there
counted_once : (e a b : Bool) (d : ℕ) → (e ≡ true → a ≡ b)
    → (if (b || e) then (if a then d else d + 1) else (if a then d else d + 1) + 1)
    ≡ (if (e || a) then (if b then d else d + 1) else (if b then d else d + 1) + 1)
counted_once true true true d h = refl
counted_once true false false d h = refl
counted_once true true false d h = let e = h refl in cc
counted_once true false true d h = let e = h refl in cc
counted_once false true true d h = refl
counted_once false true false d h = refl
counted_once false false true d h = refl
counted_once false false false d h = refl

-- one more name counts where it isn't among the others
pub distinct-push : (xs : List Text) (x : Text) → distinct (xs ++ x ∷ []) ≡ (if is_among xs x then distinct xs else distinct xs + 1)
distinct-push [] x = refl
distinct-push (y ∷ xs) x =
    ap (λ b. if b then distinct (xs ++ x ∷ []) else distinct (xs ++ x ∷ []) + 1) (is_among-push xs x y)
    ∙ ap (λ n. if (is_among xs y || bytes_eq x y) then n else n + 1) (distinct-push xs x)
    ∙ ap (λ e. if (is_among xs y || e) then (if is_among xs x then distinct xs else distinct xs + 1) else (if is_among xs x then distinct xs else distinct xs + 1) + 1) (bytes_eq_comm x y)
    ∙ counted_once (bytes_eq y x) (is_among xs x) (is_among xs y) (distinct xs) (λ e. ap (λ z. is_among xs z) (sym (bytes_eq-same y x e)))
