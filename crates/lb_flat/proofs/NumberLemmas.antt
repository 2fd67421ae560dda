-- Names of a list, each once, and their numbers.
use Rattle.std.proofs.Common.{◌≡◌, ℕ, suc, ◌+◌, ◌<◌, ◌≤◌, Bool, true, false, cond, ◌||◌, List, [], ◌∷◌, ◌++◌, length, get_or, take, refl, sym, ap, ◌∙◌, arith, Some, None}
use Rattle.std.specs.Prelude.{if◌then◌else◌, Option}
use Rattle.std.specs.Borrow.{Bor}
use Rattle.std.proofs.lemmas.List.{length-map}
use Rattle.std.specs.BTreeMap.{BTreeMap, get_by, UpdatesBy}
use Rattle.std.specs.Cmp.Lexicographic.{slice_cmp}
use Rattle.std.specs.Option.{option_map, unwrap_or, is_some}
use Rattle.std.specs.Ordering.{nat_cmp}
use Rattle.std.proofs.lemmas.Map.Text.{btree_map_updates_str}
use Rattle.lb_flat.specs.Flattened.{place_in}
use Rattle.lb_flat.specs.InternalFlatten.{number_in, texts_of, AreTheirNumbers}
use Rattle.std.specs.Str.{bytes_eq}
use Rattle.lb_syntax.specs.Names.{Text, is_among, AreDistinct}
use Rattle.lb_syntax.proofs.DistinctLemmas.{bytes_eq-same, bytes_eq_comm, is_among-push}
use Rattle.lb_check.proofs.NameSets.{names_back}
use Rattle.lb_flat.proofs.BooleanLemmas.{or_false}

-- these are the names of the list, each once
pub record AreJust (made names : List Text) : Type 0 where
  pub distinct : AreDistinct made
  pub same : (x : Text) → is_among made x ≡ is_among names x

first_false : (a b : Bool) → (a || b) ≡ false → a ≡ false
first_false true b e = e
first_false false b e = refl

second_false : (a b : Bool) → (a || b) ≡ false → b ≡ false
second_false true b e = absurd (cc)
second_false false b e = e

or_true : (a b : Bool) → (b ≡ true → a ≡ true) → a ≡ (a || b)
or_true true b h = refl
or_true false true h = h refl
or_true false false h = refl

-- a new name behind the others
push_distinct : (made : List Text) (x : Text) → AreDistinct made → is_among made x ≡ false → AreDistinct (made ++ x ∷ [])
push_distinct [] x d e = (refl, tt)
push_distinct (y ∷ ys) x d e = (
  is_among-push ys x y ∙ or_false (is_among ys y) (bytes_eq x y) d.0 (bytes_eq_comm x y ∙ first_false (bytes_eq y x) (is_among ys x) e),
  push_distinct ys x d.1 (second_false (bytes_eq y x) (is_among ys x) e),
)

pub just_more : (made names : List Text) (i : ℕ) (x : Text) → i < length names → x ≡ get_or names i x → is_among made x ≡ false
    → AreJust made (take i names) → AreJust (made ++ x ∷ []) (take (i + 1) names)
just_more made names i x h is fresh just = record {
  distinct = push_distinct made x just.distinct fresh;
  same = λ y.
      is_among-push made x y ∙ ap (λ b. b || bytes_eq x y) (just.same y) ∙ sym (is_among-push (take i names) x y)
      ∙ ap (λ (l : List Text). is_among l y) (sym (names_back names i x h is));
}

pub just_same : (made names : List Text) (i : ℕ) (x : Text) → i < length names → x ≡ get_or names i x → is_among made x ≡ true
    → AreJust made (take i names) → AreJust made (take (i + 1) names)
just_same made names i x h is there just = record {
  distinct = just.distinct;
  same = λ y.
      just.same y
      ∙ or_true (is_among (take i names) y) (bytes_eq x y) (λ e. ap (λ (z : Text). is_among (take i names) z) (sym (bytes_eq-same x y e)) ∙ sym (just.same x) ∙ there)
      ∙ sym (is_among-push (take i names) x y)
      ∙ ap (λ (l : List Text). is_among l y) (sym (names_back names i x h is));
}

-- ---- numbers

-- a name has a number where it is there
has_number : (names : List Text) (x : Text) → is_some (number_in names x) ≡ is_among names x
has_number [] x = refl
has_number (y ∷ ys) x = at (has_number ys x) (bytes_eq y x)
  where
    some : (o : Option ℕ) → is_some (option_map suc o) ≡ is_some o
    some None = refl
    some (Some n) = refl

    at : is_some (number_in ys x) ≡ is_among ys x → (b : Bool) → is_some (if b then Some 0 else option_map suc (number_in ys x)) ≡ (b || is_among ys x)
    at next true = refl
    at next false = some (number_in ys x) ∙ next

-- and it is its place
pub place_is_number : (names : List Text) (x : Text) → place_in names x ≡ unwrap_or (number_in names x) (length names)
place_is_number [] x = refl
place_is_number (y ∷ ys) x = at (place_is_number ys x) (bytes_eq y x)
  where
    later : (o : Option ℕ) (n : ℕ) → suc (unwrap_or o n) ≡ unwrap_or (option_map suc o) (suc n)
    later None n = refl
    later (Some k) n = refl

    at : place_in ys x ≡ unwrap_or (number_in ys x) (length ys) → (b : Bool) → (if b then 0 else suc (place_in ys x)) ≡ unwrap_or (if b then Some 0 else option_map suc (number_in ys x)) (suc (length ys))
    at next true = refl
    at next false = ap suc next ∙ later (number_in ys x) (length ys)

-- no place is past the last
pub place_at_most : (names : List Text) (x : Text) → place_in names x ≤ length names
place_at_most [] x = omega arith
place_at_most (y ∷ ys) x = at (place_at_most ys x) (bytes_eq y x)
  where
    at : place_in ys x ≤ length ys → (b : Bool) → (if b then 0 else suc (place_in ys x)) ≤ suc (length ys)
    at next true = omega arith
    at next false = omega (arith, next)

-- a new name behind the others has their number
number_push : (names : List Text) (x y : Text) → is_among names x ≡ false → number_in (names ++ x ∷ []) y ≡ cond (bytes_eq x y) (Some (length names)) (number_in names y)
number_push [] x y new = at (bytes_eq x y)
  where
    at : (b : Bool) → (if b then Some 0 else option_map suc None) ≡ cond b (Some 0) None
    at true = refl
    at false = refl
number_push (z ∷ zs) x y new = at (bytes_eq z y) (bytes_eq x y) refl refl (number_push zs x y (second_false (bytes_eq z x) (is_among zs x) new))
  where
    later : (b : Bool) (n : ℕ) (o : Option ℕ) → option_map suc (cond b (Some n) o) ≡ cond b (Some (suc n)) (option_map suc o)
    later true n o = refl
    later false n o = refl

    other : bytes_eq z y ≡ true → bytes_eq x y ≡ false
    other e = ap (λ w. bytes_eq x w) (sym (bytes_eq-same z y e)) ∙ bytes_eq_comm x z ∙ first_false (bytes_eq z x) (is_among zs x) new

    at : (b e : Bool) → bytes_eq z y ≡ b → bytes_eq x y ≡ e → number_in (zs ++ x ∷ []) y ≡ cond e (Some (length zs)) (number_in zs y)
        → (if b then Some 0 else option_map suc (number_in (zs ++ x ∷ []) y)) ≡ cond e (Some (suc (length zs))) (if b then Some 0 else option_map suc (number_in zs y))
    at true true p q next = absurd (cc (other p, q))
    at true false p q next = refl
    at false e p q next = ap (λ o. option_map suc o) next ∙ later e (length zs) (number_in zs y)

-- ---- the map of numbers

pub texts_push : (made : List (Bor (List ℕ))) (b : Bor (List ℕ)) → texts_of (made ++ b ∷ []) ≡ texts_of made ++ b.now ∷ []
texts_push [] b = refl
texts_push (m ∷ ms) b = ap (λ (l : List Text). m.now ∷ l) (texts_push ms b)

-- one number more
pub numbers_more : (old new : BTreeMap (Bor (List ℕ)) ℕ) (made : List (Bor (List ℕ))) (b : Bor (List ℕ)) → is_among (texts_of made) b.now ≡ false → AreTheirNumbers old (texts_of made)
    → UpdatesBy (λ x y. slice_cmp nat_cmp x.now y.now) (λ k. slice_cmp nat_cmp b.now k.now) old new (Some (length made)) → AreTheirNumbers new (texts_of (made ++ b ∷ []))
numbers_more old new made b fresh h u = record {
  each = λ y.
      btree_map_updates_str b.now old new (Some (length made)) u y
      ∙ ap (λ o. cond (bytes_eq b.now y) (Some (length made)) o) (h.each y)
      ∙ ap (λ n. cond (bytes_eq b.now y) (Some n) (number_in (texts_of made) y)) (sym (length-map made (λ (c : Bor (List ℕ)). c.now)))
      ∙ sym (number_push (texts_of made) b.now y fresh)
      ∙ ap (λ (l : List Text). number_in l y) (sym (texts_push made b));
}

-- the map has a name where it is there
pub map_has : (numbers : BTreeMap (Bor (List ℕ)) ℕ) (names : List Text) (x : Text) → AreTheirNumbers numbers names
    → is_some (get_by (λ k. slice_cmp nat_cmp x k.now) numbers) ≡ is_among names x
map_has numbers names x h = ap (λ (o : Option ℕ). is_some o) (h.each x) ∙ has_number names x

-- what the map has at a name is its place, and what it hasn't is none of the names
pub number_found : (numbers : BTreeMap (Bor (List ℕ)) ℕ) (names : List Text) (x : Text) (n : ℕ) → AreTheirNumbers numbers names
    → Some n ≡ get_by (λ k. slice_cmp nat_cmp x k.now) numbers → n ≡ place_in names x
number_found numbers names x n h e = ap (λ (o : Option ℕ). unwrap_or o (length names)) (e ∙ h.each x) ∙ sym (place_is_number names x)

pub number_missing : (numbers : BTreeMap (Bor (List ℕ)) ℕ) (names : List Text) (x : Text) → AreTheirNumbers numbers names
    → None ≡ get_by (λ k. slice_cmp nat_cmp x k.now) numbers → length names ≡ place_in names x
number_missing numbers names x h e = ap (λ (o : Option ℕ). unwrap_or o (length names)) (e ∙ h.each x) ∙ sym (place_is_number names x)
