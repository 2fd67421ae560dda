-- A program in order names no variables but its functions' own: so no other is ever live.
use Rattle.std.proofs.Common.{◌≡◌, ℕ, ◌<◌, Bool, true, false, not, ◌&&◌, ◌||◌, List, [], ◌∷◌, length, get_or, map, All, refl, sym, ap, ◌∙◌, subst, arith, eqb-true}
use Rattle.std.specs.Prelude.{◌==◌}
use Rattle.std.proofs.lemmas.List.{get_or-map, length-map}
use Rattle.std.proofs.lemmas.List.Elements.{All-tail, All-cons}
use Rattle.lb_flat.specs.declared.flat.FlatFunction.{FlatFunction}
use Rattle.lb_flat.specs.Code.{Code, Plain, Reserve, Branch, Loop, Nothing, Sequence, Routine}
use Rattle.lb_flat.specs.declared.flat.FlatProgram.{FlatProgram}
use Rattle.lb_flat.specs.Flat.{flat_routine, flat_executable}
use Rattle.lb_flat.specs.Order.{KeepsRoutineRules, IsVariable, IsFlatInOrder}
use Rattle.lb_flat.specs.Walks.{among}
use Rattle.lb_flat.specs.Liveness.{live_before, live}
use Rattle.lb_flat.proofs.BooleanLemmas.{by_test, or_second}
use Rattle.lb_alloc.specs.InternalSets.{NamesVariables, NamesItsOwn}

names_its_own : (gs : List (Routine ℕ)) (fs : List FlatFunction) → All (KeepsRoutineRules IsVariable gs) (map flat_routine fs)
    → (i : ℕ) (f : FlatFunction) → i < length fs → f ≡ get_or fs i f → NamesItsOwn (flat_routine f)
names_its_own gs fs h i f lt is =
    let here : get_or (map flat_routine fs) i (flat_routine f) ≡ flat_routine f = get_or-map flat_routine fs i f (flat_routine f) lt ∙ ap flat_routine (sym is) in
    let k : KeepsRoutineRules IsVariable gs (flat_routine f) =
    subst (λ (r : Routine ℕ). KeepsRoutineRules IsVariable gs r) here (h i (flat_routine f) (subst (λ (n : ℕ). i < n) (sym (length-map fs flat_routine)) lt)) in
    (k.params, k.results, k.names)

pub names_of_item : (p : FlatProgram) (fs : List FlatFunction) → IsFlatInOrder (flat_executable p) → fs ≡ p.functions
    → (i : ℕ) (f : FlatFunction) → i < length fs → f ≡ get_or fs i f → NamesItsOwn (flat_routine f)
names_of_item p fs h e = names_its_own (map flat_routine p.functions) fs
    (subst (λ (gs : List FlatFunction). All (KeepsRoutineRules IsVariable (map flat_routine p.functions)) (map flat_routine gs)) (sym e) h.routines)

module _ (n x : ℕ) where
  pub below_among : (xs : List ℕ) → All (IsVariable n) xs → among xs x ≡ true → x < n
  below_among [] h m = cc
  below_among (y ∷ ys) h m =
      by_test (x == y)
      (λ t. let head : y < n = h 0 0 (omega arith) in subst (λ (z : ℕ). z < n) (sym (eqb-true x y t)) head)
      (λ f. below_among ys (All-tail (IsVariable n) y ys h) (or_second (x == y) (among ys x) f m))

  pub below_one : (y : ℕ) → y < n → All (IsVariable n) (y ∷ [])
  below_one y lt = All-cons (IsVariable n) y [] lt (λ k d none. absurd (omega (arith, none)))

  pub none_below : All (IsVariable n) []
  none_below k d none = absurd (omega (arith, none))

  -- live before a step, or behind it
  pub below_before : (reads sets : List ℕ) (a : Bool) → All (IsVariable n) reads → (a ≡ true → x < n) → live_before x reads sets a ≡ true → x < n
  below_before reads sets a h k e = at (among reads x) (among sets x) a (below_among reads h) k e
    where
      at : (r s a : Bool) → (r ≡ true → x < n) → (a ≡ true → x < n) → (r || (not s && a)) ≡ true → x < n
      at true s a h k e = h refl
      at false true a h k e = cc
      at false false a h k e = k e

  pub below_either : (a b : Bool) → (a ≡ true → x < n) → (b ≡ true → x < n) → (a || b) ≡ true → x < n
  below_either true b h k e = h refl
  below_either false b h k e = k e

  pub below_live : (c : Code ℕ) (a : Bool) → NamesVariables n c → (a ≡ true → x < n) → live x c a ≡ true → x < n
  below_live (Plain o xs ys) a h k = below_before xs ys a h.0 k
  below_live (Reserve m y b) a h k = below_before [] (y ∷ []) (live x b a) none_below (below_live b a h.1 k)
  below_live (Branch c b d) a h k = below_before (c ∷ []) [] (live x b a || live x d a) (below_one c h.0) (below_either (live x b a) (live x d a) (below_live b a h.1 k) (below_live d a h.2 k))
  below_live (Loop b c d) a h k =
      below_live b (live_before x (c ∷ []) [] (live x d false || a)) h.0
      (below_before (c ∷ []) [] (live x d false || a) (below_one c h.1) (below_either (live x d false) a (below_live d false h.2 (λ e. cc)) k))
  below_live Nothing a h k = k
  below_live (Sequence c d) a h k = below_live c (live x d a) h.0 (below_live d a h.1 k)
