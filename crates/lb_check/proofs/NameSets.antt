-- Sets of names, and the names of a list up to a place.
use Rattle.std.proofs.Common.{◌≡◌, ℕ, ◌+◌, ◌<◌, Bool, true, false, not, cond, ◌||◌, List, [], ◌∷◌, ◌++◌, length, get_or, take, drop, refl, sym, ap, ◌∙◌, if◌then◌else◌}
use Rattle.std.specs.Prelude.{Some, slice_get}
use Rattle.std.specs.Str.{bytes_eq}
use Rattle.std.specs.Ordering.{is_eq, nat_cmp}
use Rattle.std.specs.Cmp.Lexicographic.{slice_cmp}
use Rattle.std.specs.Borrow.{Bor}
use Rattle.std.specs.BTreeSet.{BTreeSet, contains_by, UpdatesBy}
use Rattle.std.proofs.lemmas.Map.Text.{is_eq-slice_cmp}
use Rattle.std.proofs.lemmas.List.{take_more, at_drop_more}
use Rattle.lb_syntax.specs.Names.{Text, is_among}
use Rattle.lb_syntax.specs.Needs.{distinct}
use Rattle.lb_syntax.proofs.DistinctLemmas.{is_among-push, distinct-push}
use Rattle.lb_check.specs.Order.{repeated, repeated_after}

-- whether the set has this text, as borrowed bytes
abbrev pub has_text : BTreeSet (Bor Text) → Text → Bool
has_text set y = contains_by (λ k. slice_cmp nat_cmp y k.now) set

-- new has this text, and of the others those that old has
abbrev pub Adds : BTreeSet (Bor Text) → BTreeSet (Bor Text) → Text → Type 0
Adds old new x = UpdatesBy (λ a b. slice_cmp nat_cmp a.now b.now) (λ k. slice_cmp nat_cmp x k.now) old new true

-- the set has the names of the list and no others
pub record HasJust (set : BTreeSet (Bor Text)) (names : List Text) : Type 0 where
  pub each : (y : Text) → has_text set y ≡ is_among names y

or_cond : (a b : Bool) → cond a true b ≡ (a || b)
or_cond true b = refl
or_cond false b = refl

or_comm : (a b : Bool) → (a || b) ≡ (b || a)
or_comm true true = refl
or_comm true false = refl
or_comm false true = refl
or_comm false false = refl

-- one name more, in front or behind
pub has_front : (old new : BTreeSet (Bor Text)) (names : List Text) (x : Text) → HasJust old names → Adds old new x → HasJust new (x ∷ names)
has_front old new names x h u = record {
  each = λ y.
      u.0 (record { ref_ptr = (0, 0); now = y })
      ∙ or_cond (is_eq (slice_cmp nat_cmp x y)) (has_text old y)
      ∙ ap (λ b. b || has_text old y) (is_eq-slice_cmp x y)
      ∙ ap (λ b. bytes_eq x y || b) (h.each y);
}

pub has_back : (old new : BTreeSet (Bor Text)) (names : List Text) (x : Text) → HasJust old names → Adds old new x → HasJust new (names ++ x ∷ [])
has_back old new names x h u = record {
  each = λ y. (has_front old new names x h u).each y ∙ or_comm (bytes_eq x y) (is_among names y) ∙ sym (is_among-push names x y);
}

counted_step : (b added : Bool) (d : ℕ) → added ≡ not b → (if added then d + 1 else d) ≡ (if b then d else d + 1)
counted_step true true d e = cc
counted_step true false d e = refl
counted_step false true d e = refl
counted_step false false d e = cc

-- a name counts where it is new
pub counted_back : (set : BTreeSet (Bor Text)) (names : List Text) (x : Text) (added : Bool) → HasJust set names → added ≡ not (has_text set x)
    → (if added then distinct names + 1 else distinct names) ≡ distinct (names ++ x ∷ [])
counted_back set names x added h e = counted_step (is_among names x) added (distinct names) (e ∙ ap not (h.each x)) ∙ sym (distinct-push names x)

pub names_back : (names : List Text) (i : ℕ) (x : Text) → i < length names → x ≡ get_or names i x → take (i + 1) names ≡ take i names ++ x ∷ []
names_back names i x h is = take_more names i x h ∙ ap (λ (y : Text). take i names ++ y ∷ []) (sym is)

-- the set has the names before the rest, and the names that come twice are those that come twice in the rest
pub record Searched (set : BTreeSet (Bor Text)) (names rest : List Text) : Type 0 where
  pub earlier : List Text
  pub has : HasJust set earlier
  pub same : repeated_after earlier rest ≡ repeated names

unseen : (b added : Bool) → added ≡ not b → added ≡ true → b ≡ false
unseen true added e f = let g : true ≡ false = sym f ∙ e in cc
unseen false added e f = refl

seen : (b added : Bool) → added ≡ not b → added ≡ false → b ≡ true
seen true added e f = refl
seen false added e f = let g : false ≡ true = sym f ∙ e in cc

found_step : (b : Bool) (x : Text) (xs : List Text) → b ≡ true → Some x ≡ slice_get (if b then x ∷ xs else xs) 0
found_step true x xs e = refl
found_step false x xs e = cc

repeated_step : (b : Bool) (x : Text) (xs : List Text) → b ≡ false → xs ≡ (if b then x ∷ xs else xs)
repeated_step true x xs e = cc
repeated_step false x xs e = refl

-- a new name
pub searched_more : (old new : BTreeSet (Bor Text)) (names : List Text) (i : ℕ) (x : Text) (added : Bool) → i < length names → x ≡ get_or names i x
    → added ≡ not (has_text old x) → added ≡ true → Adds old new x
    → Searched old names (drop i names) → Searched new names (drop (i + 1) names)
searched_more old new names i x added h is e fresh u s = record {
  earlier = x ∷ s.earlier;
  has = has_front old new s.earlier x s.has u;
  same =
      repeated_step (is_among s.earlier x) x (repeated_after (x ∷ s.earlier) (drop (i + 1) names)) (unseen (is_among s.earlier x) added (e ∙ ap not (s.has.each x)) fresh)
      ∙ ap (λ (y : Text). repeated_after s.earlier (y ∷ drop (i + 1) names)) is
      ∙ sym (at_drop_more (repeated_after s.earlier) names i x h)
      ∙ s.same;
}

-- a name that comes again is the first one to do so
pub searched_found : (set : BTreeSet (Bor Text)) (names : List Text) (i : ℕ) (x : Text) (added : Bool) → i < length names → x ≡ get_or names i x
    → added ≡ not (has_text set x) → added ≡ false → Searched set names (drop i names) → Some x ≡ slice_get (repeated names) 0
searched_found set names i x added h is e again s =
    found_step (is_among s.earlier x) x (repeated_after (x ∷ s.earlier) (drop (i + 1) names)) (seen (is_among s.earlier x) added (e ∙ ap not (s.has.each x)) again)
    ∙ ap (λ (ys : List Text). slice_get ys 0)
    (ap (λ (y : Text). repeated_after s.earlier (y ∷ drop (i + 1) names)) is ∙ sym (at_drop_more (repeated_after s.earlier) names i x h) ∙ s.same)
