-- Laws of variables, kept as entries.
use Rattle.std.proofs.Common.{◌≡◌, ℕ, List, [], ◌∷◌, ◌++◌, Option, Some, None, Bool, true, false, refl, sym, ap, ◌∙◌}
use Rattle.std.specs.Prelude.{if◌then◌else◌, cond, not}
use Rattle.std.specs.Str.{bytes_eq}
use Rattle.std.proofs.lemmas.Slice.Eq.{bytes_eq-Decides}
use Rattle.lb_syntax.specs.Names.{Text}
use Rattle.lb_syntax.proofs.DistinctLemmas.{bytes_eq-same, bytes_eq-refl}
use Rattle.lb_source.specs.declared.variables.Entry.{Entry}
use Rattle.lb_source.specs.Maps.{put}
use Rattle.lb_source.specs.InternalMachine.{without, variables_of}

pub same_everywhere : {A B : Type 0} (f g : A → B) → ((x : A) → f x ≡ g x) → f ≡ g
same_everywhere f g h = λ i x. h x i

-- two names that are equal to a third
other_text : (a x y : Text) → bytes_eq a x ≡ false → bytes_eq a y ≡ true → bytes_eq x y ≡ false
other_text a x y n e =
    let same : a ≡ y = bytes_eq-same a y e in
    flips (bytes_eq x y) (λ t. let back : a ≡ x = same ∙ sym (bytes_eq-same x y t) in
    let yes : bytes_eq a x ≡ true = (bytes_eq-Decides a x).1 back in cc)
  where
    flips : (b : Bool) → (b ≡ true → ⊥) → b ≡ false
    flips true h = absurd (h refl)
    flips false h = refl

both_none : (b : Bool) → ◌≡◌ {A = Option ℕ} None (if b then None else None)
both_none true = refl
both_none false = refl

-- what both sides come to, by the tests
kept_twice : (b : Bool) (v r : Option ℕ) → (if b then None else r) ≡ (if b then None else (if b then v else r))
kept_twice true v r = refl
kept_twice false v r = refl

not_both : (b c : Bool) (v r : Option ℕ) → (c ≡ true → b ≡ false) → (if c then v else (if b then None else r)) ≡ (if b then None else (if c then v else r))
not_both true true v r h = let no : true ≡ false = h refl in cc
not_both true false v r h = refl
not_both false c v r h = refl

without_at : (x y : Text) (e : Entry) (es : List Entry) → variables_of (without x es) y ≡ put x None (variables_of es) y → (a : Bool) → bytes_eq e.name x ≡ a → variables_of (cond (not a) (e ∷ without x es) (without x es)) y ≡ put x None (variables_of (e ∷ es)) y
without_at x y e es ih true h =
    let same : bytes_eq e.name y ≡ bytes_eq x y = ap (λ t. bytes_eq t y) (bytes_eq-same e.name x h) in
    ih ∙ kept_twice (bytes_eq x y) (Some e.value) (variables_of es y) ∙ ap (λ b. if bytes_eq x y then None else (if b then Some e.value else variables_of es y)) (sym same)
without_at x y e es ih false h =
    ap (λ r. if bytes_eq e.name y then Some e.value else r) ih
    ∙ not_both (bytes_eq x y) (bytes_eq e.name y) (Some e.value) (variables_of es y) (other_text e.name x y h)

pub variables_of-without : (x y : Text) (es : List Entry) → variables_of (without x es) y ≡ put x None (variables_of es) y
variables_of-without x y [] = both_none (bytes_eq x y)
variables_of-without x y (e ∷ es) = without_at x y e es (variables_of-without x y es) (bytes_eq e.name x) refl

not_both' : (b c : Bool) (v w r : Option ℕ) → (c ≡ true → b ≡ false) → (if c then v else (if b then w else r)) ≡ (if b then w else (if c then v else r))
not_both' true true v w r h = let no : true ≡ false = h refl in cc
not_both' true false v w r h = refl
not_both' false c v w r h = refl

twice : (b : Bool) (v w r : Option ℕ) → (if b then v else (if b then w else r)) ≡ (if b then v else r)
twice true v w r = refl
twice false v w r = refl

append_at : (d : Entry) (es : List Entry) (e : Entry) (y : Text) → variables_of (d ∷ es) e.name ≡ None → (variables_of es e.name ≡ None → variables_of (es ++ e ∷ []) y ≡ put e.name (Some e.value) (variables_of es) y) → (a : Bool) → bytes_eq d.name e.name ≡ a → variables_of ((d ∷ es) ++ e ∷ []) y ≡ put e.name (Some e.value) (variables_of (d ∷ es)) y
append_at d es e y h ih true t =
    let bad : Some d.value ≡ None = ap (λ b. if b then Some d.value else variables_of es e.name) (sym t) ∙ h in cc
append_at d es e y h ih false t =
    let rest : variables_of es e.name ≡ None = ap (λ b. if b then Some d.value else variables_of es e.name) (sym t) ∙ h in
    ap (λ r. if bytes_eq d.name y then Some d.value else r) (ih rest)
    ∙ not_both' (bytes_eq e.name y) (bytes_eq d.name y) (Some d.value) (Some e.value) (variables_of es y) (other_text d.name e.name y t)

-- an entry at the end counts where no other has the name
variables_of-append : (es : List Entry) (e : Entry) (y : Text) → variables_of es e.name ≡ None → variables_of (es ++ e ∷ []) y ≡ put e.name (Some e.value) (variables_of es) y
variables_of-append [] e y h = refl
variables_of-append (d ∷ es) e y h = append_at d es e y h (variables_of-append es e y) (bytes_eq d.name e.name) refl

pub variables_of-push : (x y : Text) (v : ℕ) (es : List Entry) → variables_of (without x es ++ record { name = x; value = v } ∷ []) y ≡ put x (Some v) (variables_of es) y
variables_of-push x y v es =
    variables_of-append (without x es) (record { name = x; value = v }) y (variables_of-without x x es ∙ ap (λ b. if b then None else variables_of es x) (bytes_eq-refl x))
    ∙ ap (λ o. if bytes_eq x y then Some v else o) (variables_of-without x y es)
    ∙ twice (bytes_eq x y) (Some v) None (variables_of es y)
