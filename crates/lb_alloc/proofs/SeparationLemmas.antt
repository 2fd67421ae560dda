-- Places that are apart from each of several variables, and at each of several commands.
use Rattle.std.proofs.Common.{◌≡◌, ◌≢◌, ◌↔◌, ℕ, ◌+◌, ◌-◌, ◌<◌, ◌≤◌, Bool, true, false, ◌&&◌, List, ◌∷◌, length, get_or, drop, IsTrue, refl, sym, ap, ◌∙◌, subst, arith, eqb-true, drop-cons, add-one}
use Rattle.std.specs.Prelude.{◌==◌}
use Rattle.lb_flat.specs.declared.places.Place.{Place}
use Rattle.lb_flat.specs.declared.flat.FlatCmd.{FlatCmd}
use Rattle.lb_flat.specs.Code.{Code, Sequence}
use Rattle.lb_flat.specs.Flat.{flat_command}
use Rattle.lb_flat.specs.Walks.{among}
use Rattle.lb_flat.specs.Liveness.{live, IsApart}
use Rattle.lb_flat.proofs.BooleanLemmas.{by_test, or_second}
use Rattle.lb_flat.proofs.HeldLemmas.{first_among, rest_among}
use Rattle.lb_alloc.specs.InternalSets.{has, IsAlone, AreAllApart, IsAllApart}
use Rattle.lb_alloc.proofs.BlockLemmas.{rest, rest_at}

head_at : (xs : List ℕ) (i : ℕ) → i < length xs → drop i xs ≡ get_or xs i 0 ∷ drop (i + 1) xs
head_at xs i h = rw (add-one, drop-cons xs i 0)

module _ (place : ℕ → Place) (set : List Bool) where
  first_alone : (u : ℕ) (us : List ℕ) → AreAllApart place (u ∷ us) set → IsAlone place set u
  first_alone u us h x l ne = h x l u (first_among u us) ne

  rest_apart : (u : ℕ) (us : List ℕ) → AreAllApart place (u ∷ us) set → AreAllApart place us set
  rest_apart u us h x l v m ne = h x l v (rest_among u us v m) ne

  all_apart : (u : ℕ) (us : List ℕ) → IsAlone place set u → AreAllApart place us set → AreAllApart place (u ∷ us) set
  all_apart u us h k x l v m ne =
      by_test (v == u)
      (λ t. subst (λ (w : ℕ). w ≢ x → place w ≢ place x) (sym (eqb-true v u t)) (h x l) ne)
      (λ f. k x l v (or_second (v == u) (among us v) f m) ne)

  pub next_apart : (sets : List ℕ) (i : ℕ) → i < length sets → IsAlone place set (get_or sets i 0) → (AreAllApart place (drop i sets) set ↔ AreAllApart place sets set)
      → (AreAllApart place (drop (i + 1) sets) set ↔ AreAllApart place sets set)
  next_apart sets i lt h k =
      let here = head_at sets i lt in (
        λ r. k.0 (subst (λ us. AreAllApart place us set) (sym here) (all_apart (get_or sets i 0) (drop (i + 1) sets) h r)),
        λ a. rest_apart (get_or sets i 0) (drop (i + 1) sets) (subst (λ us. AreAllApart place us set) here (k.1 a)),
      )

  pub not_apart : (sets : List ℕ) (i : ℕ) → i < length sets → (IsAlone place set (get_or sets i 0) → ⊥) → (AreAllApart place (drop i sets) set ↔ AreAllApart place sets set) → AreAllApart place sets set → ⊥
  not_apart sets i lt h k a = h (first_alone (get_or sets i 0) (drop (i + 1) sets) (subst (λ us. AreAllApart place us set) (head_at sets i lt) (k.1 a)))

-- both are true exactly where both say so
pub both_tell : {A B : Type 0} (a b : Bool) → (IsTrue a ↔ A) → (IsTrue b ↔ B) → (IsTrue (a && b) ↔ A × B)
both_tell true b h k = (λ e. (h.0 refl, k.0 e), λ p. k.1 p.1)
both_tell false b h k = (λ e. cc, λ p. let no = h.1 p.0 in cc)

-- a command before others
pub sequence_apart : (place : ℕ → Place) (behind set : List Bool) (c r : Code ℕ) (here apart : Bool) → ((x : ℕ) → has set x ≡ live x r (has behind x))
    → (IsTrue here ↔ IsAllApart place c set) → (IsTrue apart ↔ IsAllApart place r behind) → (IsTrue (here && apart) ↔ IsAllApart place (Sequence c r) behind)
sequence_apart place behind set c r here apart l h k =
    let both = both_tell here apart h k in (
      λ e. let p = both.0 e in λ x. (subst (λ a. IsApart place x c a) (l x) (p.0 x), p.1 x),
      λ a. both.1 (λ x. subst (λ b. IsApart place x c b) (sym (l x)) (a x).0, λ x. (a x).1),
    )

-- one command of a block further back
pub back_one : (place : ℕ → Place) (behind set more : List Bool) (cs : List FlatCmd) (i : ℕ) (c : FlatCmd) (here apart : Bool)
    → 0 < i → i ≤ length cs → c ≡ get_or cs (i - 1) c → ((x : ℕ) → has set x ≡ live x (rest cs i) (has behind x))
    → ((x : ℕ) → has more x ≡ live x (flat_command c) (has set x)) → (IsTrue here ↔ IsAllApart place (flat_command c) set) → (IsTrue apart ↔ IsAllApart place (rest cs i) behind)
    → (i - 1 ≤ length cs) × ((x : ℕ) → has more x ≡ live x (rest cs (i - 1)) (has behind x)) × (IsTrue (here && apart) ↔ IsAllApart place (rest cs (i - 1)) behind)
back_one place behind set more cs i c here apart some le is l m h k =
    let lt : i - 1 < length cs = omega (arith, some, le) in
    let same : i - 1 + 1 ≡ i = omega (arith, some) in
    let at : rest cs (i - 1) ≡ Sequence (flat_command c) (rest cs i) =
    rest_at cs (i - 1) c lt is ∙ ap (λ (n : ℕ). Sequence (flat_command c) (rest cs n)) same in (
      omega (arith, le),
      λ x. m x ∙ ap (λ (b : Bool). live x (flat_command c) b) (l x) ∙ ap (λ (d : Code ℕ). live x d (has behind x)) (sym at),
      subst (λ (d : Code ℕ). IsTrue (here && apart) ↔ IsAllApart place d behind) (sym at) (sequence_apart place behind set (flat_command c) (rest cs i) here apart l h k),
    )

pub not_here : (a b : Bool) → a ≡ false → (a && b) ≡ a
not_here true b e = cc
not_here false b e = refl
