-- Places of their own are accepted.
use Rattle.std.proofs.Common.{◌≡◌, ℕ, ◌+◌, ◌-◌, ◌<◌, ◌≤◌, Bool, true, false, ◌||◌, List, [], ◌∷◌, length, All, refl, sym, ap, ◌∙◌, subst, arith, ltb-true, ltb-false, lt-ltb}
use Rattle.std.specs.Prelude.{nat_lt, if◌then◌else◌}
use Rattle.lb_flat.specs.declared.places.Place.{Place}
use Rattle.lb_flat.specs.declared.places.Place.TheVariants.{Register, Slot}
use Rattle.lb_flat.specs.declared.flat.FlatFunction.{FlatFunction}
use Rattle.lb_flat.specs.Code.{Code, Plain, Reserve, Branch, Loop, Nothing, Sequence, Routine}
use Rattle.lb_flat.specs.Flat.{flat_routine}
use Rattle.lb_flat.specs.Located.{place_of}
use Rattle.lb_flat.specs.Order.{IsVariable, IsInRegister}
use Rattle.lb_flat.specs.Accepted.{MayHold}
use Rattle.lb_flat.specs.Liveness.{live_before, live, live_at_end, Apart, IsApart, IsApartIn}
use Rattle.lb_flat.proofs.BooleanLemmas.{by_test}
use Rattle.lb_flat.proofs.ApartLemmas.{keeps_apart}
use Rattle.lb_alloc.specs.InternalSets.{NamesVariables, NamesItsOwn}
use Rattle.lb_alloc.specs.InternalOwn.{own_place, AreOwnPlaces, IsServed}
use Rattle.lb_alloc.proofs.NameLemmas.{below_among, below_one, below_before, below_either, below_live}

-- ---- places of their own are apart

number_of : Place → ℕ
number_of (Register r) = r - 18
number_of (Slot s) = s + 12

number_own : (x : ℕ) → number_of (own_place x) ≡ x
unfolding number_of
number_own x = by_test (nat_lt x 12)
    (λ t. ap (λ b. number_of (if b then Register (18 + x) else Slot (x - 12))) t ∙ (let e : 18 + x - 18 ≡ x = omega arith in e))
    (λ f. ap (λ b. number_of (if b then Register (18 + x) else Slot (x - 12))) f ∙ (let le : 12 ≤ x = ltb-false x 12 f in let e : x - 12 + 12 ≡ x = omega arith in e))

own_apart : (x y : ℕ) → own_place x ≡ own_place y → x ≡ y
own_apart x y e = sym (number_own x) ∙ ap number_of e ∙ number_own y

module _ (n x : ℕ) (place : ℕ → Place) (own : (u y : ℕ) → u < n → y < n → place u ≡ place y → u ≡ y) where
  apart_own : (ys : List ℕ) (a : Bool) → All (IsVariable n) ys → (a ≡ true → x < n) → Apart place x ys a
  apart_own ys a h k e u m ne same = ne (own u x (below_among n u ys h m) (k e) same)

  code_own : (c : Code ℕ) (a : Bool) → NamesVariables n c → (a ≡ true → x < n) → IsApart place x c a
  code_own (Plain o xs ys) a h k = apart_own ys a h.1 k
  code_own (Reserve m y b) a h k = (apart_own (y ∷ []) (live x b a) (below_one n x y h.0) (below_live n x b a h.1 k), code_own b a h.1 k)
  code_own (Branch c b d) a h k = (code_own b a h.1 k, code_own d a h.2 k)
  code_own (Loop b c d) a h k =
      let loop : Code ℕ = Loop b c d in
      let head : live x loop a ≡ true → x < n = below_live n x loop a h k in (
        code_own b (live_before x (c ∷ []) [] (live x d (live x loop a) || a)) h.0
            (below_before n x (c ∷ []) [] (live x d (live x loop a) || a) (below_one n x c h.1) (below_either n x (live x d (live x loop a)) a (below_live n x d (live x loop a) h.2 head) k)),
        code_own d (live x loop a) h.2 head,
      )
  code_own Nothing a h k = tt
  code_own (Sequence c d) a h k = (code_own c (live x d a) h.0 (below_live n x d a h.1 k), code_own d a h.1 k)

  routine_own : (f : Routine ℕ) → f.variables ≡ n → NamesItsOwn f → IsApartIn place f x
  routine_own f e h =
      let names : All (IsVariable n) f.params × All (IsVariable n) f.results × NamesVariables n f.body =
      subst (λ (m : ℕ). All (IsVariable m) f.params × All (IsVariable m) f.results × NamesVariables m f.body) e h in
      let end = below_before n x f.results [] false names.1 (λ e. cc) in
      (apart_own f.params (live x f.body (live_at_end f x)) names.0 (below_live n x f.body (live_at_end f x) names.2 end), code_own f.body (live_at_end f x) names.2 end)

-- ---- and may be held, and few are registers

own_may_hold : (n x : ℕ) → x < n → MayHold n (own_place x)
own_may_hold n x h = by_test (nat_lt x 12)
    (λ t. let lt : x < 12 = ltb-true x 12 t in subst (λ b. MayHold n (if b then Register (18 + x) else Slot (x - 12))) (sym t) (omega arith, omega arith))
    (λ f. subst (λ b. MayHold n (if b then Register (18 + x) else Slot (x - 12))) (sym f) (omega arith))

own_is_register : (x : ℕ) → x < 8 → IsInRegister (own_place x)
own_is_register x h = let t : nat_lt x 12 ≡ true = lt-ltb x 12 (omega arith) in subst (λ b. IsInRegister (if b then Register (18 + x) else Slot (x - 12))) (sym t) tt

pub own_served : (f : FlatFunction) (places : List Place) → length places ≡ f.variables → AreOwnPlaces f.variables places → NamesItsOwn (flat_routine f) → IsServed f places
own_served f places each own h = record {
  accepted = record {
    each = each;
    good = λ k d lt. let here : k < f.variables = omega arith in subst (λ p. MayHold f.variables p) (sym (own k d here)) (own_may_hold f.variables k here);
    apart = keeps_apart (place_of places) (flat_routine f) (λ x. routine_own f.variables x (place_of places)
        (λ u y hu hy e. own_apart u y (sym (own u (Slot 0) hu) ∙ e ∙ own y (Slot 0) hy)) (flat_routine f) refl h);
  };
  registers = λ few k d lt. let here : k < f.variables = omega arith in subst (λ p. IsInRegister p) (sym (own k d here)) (own_is_register k (omega arith));
}
