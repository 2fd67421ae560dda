-- Variables that have the same values in their places as in flat code.
use Rattle.std.proofs.Common.{◌≡◌, ◌≢◌, ℕ, true, false, List, [], ◌∷◌, Option, Some, None, refl, sym, ◌∙◌, subst, eq-eqb, eqb-true}
use Rattle.std.specs.Prelude.{◌==◌}
use Rattle.lb_flat.specs.declared.places.Place.{Place}
use Rattle.lb_flat.specs.declared.places.Place.TheVariants.{Slot}
use Rattle.lb_flat.specs.Cells.{Cells, put, set_all}
use Rattle.lb_flat.specs.Run.{values}
use Rattle.lb_flat.specs.Walks.{among}
use Rattle.lb_flat.proofs.BooleanLemmas.{or_left, or_right, or_false, by_test}
use Rattle.lb_flat.proofs.PutLemmas.{put_same, put_other, slots_differ, HasAll, SameValue, more_read}

-- what a variable has in flat code, it has in its place
abbrev pub Held : (ℕ → Place) → ℕ → Cells → Cells → Type 0
Held cell x a b = HasAll (a (Slot x)) (b (cell x))

pub first_among : (y : ℕ) (ys : List ℕ) → among (y ∷ ys) y ≡ true
first_among y ys = or_left (y == y) (among ys y) (eq-eqb y y refl)

pub rest_among : (y : ℕ) (ys : List ℕ) (x : ℕ) → among ys x ≡ true → among (y ∷ ys) x ≡ true
rest_among y ys x m = or_right (x == y) (among ys x) m

-- after one variable is set, another one is held that was so and is apart from it
pub put_held : (cell : ℕ → Place) (x y : ℕ) (o : Option ℕ) (a b : Cells) → (y ≢ x → cell y ≢ cell x) → ((x == y) ≡ false → Held cell x a b) → Held cell x (put (Slot y) o a) (put (cell y) o b)
put_held cell x y o a b apart h = by_test (x == y) same other
  where
    same : (x == y) ≡ true → Held cell x (put (Slot y) o a) (put (cell y) o b)
    same t = subst (λ (z : ℕ). Held cell z (put (Slot y) o a) (put (cell y) o b)) (sym (eqb-true x y t)) (λ v e. put_same (cell y) o b ∙ sym (put_same (Slot y) o a) ∙ e)

    other : (x == y) ≡ false → Held cell x (put (Slot y) o a) (put (cell y) o b)
    other f =
        let ne : y ≢ x = λ e. let t : (x == y) ≡ true = eq-eqb x y (sym e) in cc in
        λ v e. put_other (cell y) (cell x) o b (apart ne) ∙ h f v (sym (put_other (Slot y) (Slot x) o a (slots_differ y x ne)) ∙ e)

-- after several are set at once, each is held that is apart from them, and that was held if it isn't one of them
pub set_held : (cell : ℕ → Place) (x : ℕ) (ys vs : List ℕ) (a b : Cells) → ((u : ℕ) → among ys u ≡ true → u ≢ x → cell u ≢ cell x) → (among ys x ≡ false → Held cell x a b)
    → Held cell x (set_all Slot ys vs a) (set_all cell ys vs b)
set_held cell x [] vs a b apart h = h refl
set_held cell x (y ∷ ys) [] a b apart h =
    set_held cell x ys [] (put (Slot y) None a) (put (cell y) None b) (λ u m. apart u (rest_among y ys u m))
    (λ no. put_held cell x y None a b (apart y (first_among y ys)) (λ f. h (or_false (x == y) (among ys x) f no)))
set_held cell x (y ∷ ys) (v ∷ vs) a b apart h =
    set_held cell x ys vs (put (Slot y) (Some v) a) (put (cell y) (Some v) b) (λ u m. apart u (rest_among y ys u m))
    (λ no. put_held cell x y (Some v) a b (apart y (first_among y ys)) (λ f. h (or_false (x == y) (among ys x) f no)))

-- the values of variables that are held
pub values_held : (cell : ℕ → Place) (xs : List ℕ) (a b : Cells) → ((x : ℕ) → among xs x ≡ true → Held cell x a b) → SameValue (values Slot xs a) (values cell xs b)
values_held cell [] a b h vs e = e
values_held cell (x ∷ xs) a b h vs e =
    more_read (a (Slot x)) (b (cell x)) (values Slot xs a) (values cell xs b) (h x (first_among x xs))
    (values_held cell xs a b (λ y m. h y (rest_among x xs y m))) vs e
