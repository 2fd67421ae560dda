-- Sets of variables as lists of truth values.
use Rattle.std.proofs.Common.{◌≡◌, ◌≢◌, ℕ, zero, suc, ◌+◌, ◌<◌, Bool, true, false, not, ◌&&◌, ◌||◌, List, ◌∷◌, length, get_or, set, drop, replicate, refl, sym, ap, ◌∙◌, eq-eqb, eqb-true, get_or-set_same, get_or-set_other, drop-cons, add-one}
use Rattle.std.specs.Prelude.{if◌then◌else◌, ◌==◌}
use Rattle.lb_flat.specs.Walks.{among}
use Rattle.lb_flat.proofs.BooleanLemmas.{by_test}
use Rattle.lb_alloc.specs.InternalSets.{has}

put_bit : (s : List Bool) (y x : ℕ) (b : Bool) → y < length s → has (set s y b) x ≡ (if x == y then b else has s x)
put_bit s y x b h = by_test (x == y) same other
  where
    same : (x == y) ≡ true → has (set s y b) x ≡ (if x == y then b else has s x)
    same t = ap (λ z. has (set s y b) z) (eqb-true x y t) ∙ get_or-set_same s y b false h ∙ ap (λ q. if q then b else has s x) (sym t)

    other : (x == y) ≡ false → has (set s y b) x ≡ (if x == y then b else has s x)
    other f =
        let ne : x ≢ y = λ e. let t : (x == y) ≡ true = eq-eqb x y e in cc in
        get_or-set_other s y x b false ne ∙ ap (λ q. if q then b else has s x) (sym f)

removed : (p q h : Bool) → (not q && (if p then false else h)) ≡ (not (p || q) && h)
removed true true h = refl
removed true false h = refl
removed false q h = refl

added : (p q h : Bool) → (q || (if p then true else h)) ≡ ((p || q) || h)
added true true h = refl
added true false h = refl
added false q h = refl

-- what is left to take out, taken out of what is there, comes to what it came to before
pub remove_next : (s : List Bool) (y : ℕ) (ys : List ℕ) (x : ℕ) → y < length s → (not (among ys x) && has (set s y false) x) ≡ (not (among (y ∷ ys) x) && has s x)
remove_next s y ys x h = ap (λ q. not (among ys x) && q) (put_bit s y x false h) ∙ removed (x == y) (among ys x) (has s x)

-- the same of what is left to put in
pub add_next : (s : List Bool) (y : ℕ) (ys : List ℕ) (x : ℕ) → y < length s → (among ys x || has (set s y true) x) ≡ (among (y ∷ ys) x || has s x)
add_next s y ys x h = ap (λ q. among ys x || q) (put_bit s y x true h) ∙ added (x == y) (among ys x) (has s x)

pub head_of : (xs : List ℕ) (i d : ℕ) → i < length xs → d ≡ get_or xs i d → drop i xs ≡ d ∷ drop (i + 1) xs
head_of xs i d h e =
    let all : drop i xs ≡ get_or xs i d ∷ drop (i + 1) xs = rw (add-one, drop-cons xs i d) in
    all ∙ ap (λ y. y ∷ drop (i + 1) xs) (sym e)

pub none_has : (n x : ℕ) → has (replicate n false) x ≡ false
none_has zero x = refl
none_has (suc n) zero = refl
none_has (suc n) (suc x) = none_has n x
