-- Chosen places are accepted, since no two variables of a function have the same.
use Rattle.std.proofs.Common.{◌≡◌, ◌≢◌, ℕ, zero, suc, ◌+◌, ◌<◌, ◌≤◌, Bool, true, false, nat_le, ◌&&◌, List, [], ◌∷◌, ◌++◌, map, length, get_or, refl, sym, ap, ◌∙◌, subst, arith, All, ◌⊎◌, inl, inr}
use Rattle.std.specs.Prelude.{nat_lt, if◌then◌else◌}
use Rattle.std.specs.List.{AllByRecursion}
use Rattle.std.proofs.lemmas.Bool.{cases_lt, ltb-true}
use Rattle.std.proofs.lemmas.List.{length-append}
use Rattle.std.proofs.lemmas.List.Elements.{All-from_recursion}
use Rattle.lb_flat.specs.declared.places.Place.{Place}
use Rattle.lb_flat.specs.declared.places.Place.TheVariants.{Register, Slot}
use Rattle.lb_flat.specs.Code.{Routine, Executable}
use Rattle.lb_flat.specs.Located.{place_of}
use Rattle.lb_flat.specs.Accepted.{MayHold, AreAccepted, AreAllAccepted}
use Rattle.lb_flat.specs.Order.{IsVariable, KeepsRoutineRules, IsFlatInOrder}
use Rattle.lb_flat.proofs.FlatForms.{by_elements}
use Rattle.lb_program_testkit.specs.Chosen.{chosen, first_chosen, all_chosen}
use Rattle.lb_program_testkit.proofs.WalkNames.{walk_below, set_below, behind_below}

-- ---- lists with one more at the end

at_front : (ps : List Place) (p d : Place) (k : ℕ) → k < length ps → get_or (ps ++ p ∷ []) k d ≡ get_or ps k d
at_front [] p d k lt = absurd (omega (arith, lt))
at_front (q ∷ ps) p d zero lt = refl
at_front (q ∷ ps) p d (suc k) lt = at_front ps p d k (omega (arith, lt))

at_end : (ps : List Place) (p d : Place) → get_or (ps ++ p ∷ []) (length ps) d ≡ p
at_end [] p d = refl
at_end (q ∷ ps) p d = at_end ps p d

good_end : (n : ℕ) (ps : List Place) (p : Place) → AllByRecursion (MayHold n) ps → MayHold n p → AllByRecursion (MayHold n) (ps ++ p ∷ [])
good_end n [] p h k = (k, tt)
good_end n (q ∷ ps) p h k = (h.0, good_end n ps p h.1 k)

-- ---- chosen places

module _ (from to : ℕ) (few : to ≤ 12) where
  below_to : (x : ℕ) (b : Bool) → (nat_le from x && nat_lt x to) ≡ b → b ≡ true → x < to
  below_to x b e t = at (nat_le from x) (nat_lt x to) refl (e ∙ t)
    where
      at : (a c : Bool) → nat_lt x to ≡ c → (a && c) ≡ true → x < to
      at true true ec k = ltb-true x to ec
      at true false ec k = cc
      at false c ec k = cc

  chosen_good : (n x : ℕ) → x < n → MayHold n (chosen from to x)
  chosen_good n x lt = at (nat_le from x && nat_lt x to) refl
    where
      at : (b : Bool) → (nat_le from x && nat_lt x to) ≡ b → MayHold n (if b then Register (18 + x) else Slot x)
      at true e = let lt : x < to = below_to x true e refl in (omega arith, omega (arith, lt, few))
      at false e = lt

  abbrev number : Place → ℕ
  number (Register r) = r
  number (Slot i) = i

  abbrev in_register : Place → Bool
  in_register (Register r) = true
  in_register (Slot i) = false

  chosen_apart : (u x : ℕ) → u ≢ x → chosen from to u ≢ chosen from to x
  chosen_apart u x ne = at (nat_le from u && nat_lt u to) (nat_le from x && nat_lt x to)
    where
      at : (a b : Bool) → (if a then Register (18 + u) else Slot u) ≢ (if b then Register (18 + x) else Slot x)
      at true true e = let same : 18 + u ≡ 18 + x = ap number e in ne (omega (arith, same))
      at true false e = let same : true ≡ false = ap in_register e in absurd (cc)
      at false true e = let same : false ≡ true = ap in_register e in absurd (cc)
      at false false e = ne (ap number e)

  first_length : (n : ℕ) → length (first_chosen from to n) ≡ n
  first_length zero = refl
  first_length (suc n) = omega (arith, length-append (first_chosen from to n) (chosen from to n ∷ []), first_length n)

  first_at : (n x : ℕ) → x < n → place_of (first_chosen from to n) x ≡ chosen from to x
  first_at zero x lt = absurd (omega (arith, lt))
  first_at (suc n) x lt = either (λ h. first_at n x h) (cases_lt x n)
    where
      ps : List Place
      ps = first_chosen from to n

      either : (x < n → place_of ps x ≡ chosen from to x) → (x < n) ⊎ (n ≤ x) → place_of (first_chosen from to (suc n)) x ≡ chosen from to x
      either before (inl h) = at_front ps (chosen from to n) (Slot 0) x (omega (arith, h, first_length n)) ∙ before h
      either before (inr h) =
          let same : x ≡ n = omega (arith, h, lt) in
          let last : get_or (ps ++ chosen from to n ∷ []) n (Slot 0) ≡ chosen from to n =
          subst (λ (k : ℕ). get_or (ps ++ chosen from to n ∷ []) k (Slot 0) ≡ chosen from to n) (first_length n) (at_end ps (chosen from to n) (Slot 0)) in
          subst (λ (y : ℕ). get_or (ps ++ chosen from to n ∷ []) y (Slot 0) ≡ chosen from to y) (sym same) last

  first_good : (m n : ℕ) → n ≤ m → AllByRecursion (MayHold m) (first_chosen from to n)
  first_good m zero le = tt
  first_good m (suc n) le = good_end m (first_chosen from to n) (chosen from to n) (first_good m n (omega (arith, le))) (chosen_good m n (omega (arith, le)))

  -- ---- functions and programs

  routine_accepted : (fs : List (Routine ℕ)) (f : Routine ℕ) → KeepsRoutineRules IsVariable fs f → AreAccepted f (first_chosen from to f.variables)
  routine_accepted fs f keeps =
      let n = f.variables in
      let ps = first_chosen from to n in
      record {
        each = first_length n;
        good = All-from_recursion (MayHold n) ps (first_good n n (omega arith));
        apart = λ past future s u x walk m l ne same.
            let below = walk_below fs f keeps walk in
            chosen_apart u x ne
            (sym (first_at n u (set_below n u past future s below m)) ∙ same ∙ first_at n x (behind_below n x past future s below l));
      }

  all_accepted : (fs hs : List (Routine ℕ)) → AllByRecursion (KeepsRoutineRules IsVariable fs) hs → AreAllAccepted hs (all_chosen from to hs)
  all_accepted fs [] keeps = tt
  all_accepted fs (f ∷ hs) keeps = (routine_accepted fs f keeps.0, all_accepted fs hs keeps.1)

pub chosen_accepted : (from to : ℕ) → to ≤ 12 → (p : Executable ℕ) → IsFlatInOrder p → AreAllAccepted p.routines (all_chosen from to p.routines)
chosen_accepted from to few p in_order = all_accepted from to few p.routines p.routines (by_elements (KeepsRoutineRules IsVariable p.routines) p.routines in_order.routines)
