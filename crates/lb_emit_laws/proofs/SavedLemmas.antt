-- Which registers a function saves.
use Rattle.std.proofs.Common.{◌≡◌, ℕ, zero, suc, ◌+◌, ◌<◌, ◌≤◌, inl, inr, Bool, true, false, ◌||◌, if◌then◌else◌, List, [], ◌∷◌, ◌++◌, length, refl, ap, ◌∙◌, arith, length-append}
use Rattle.std.proofs.lemmas.Bool.{eq-eqb, cases_lt}
use Rattle.std.specs.Prelude.{◌==◌, Contains}
use Rattle.lb_flat.specs.declared.places.Place.{Place}
use Rattle.lb_flat.specs.Code.{Routine}
use Rattle.lb_flat.specs.Calls.{callees}
use Rattle.lb_emit_laws.specs.Frames.{sets_in_routine, registers_from, only, link_register, saved_registers}
use Rattle.lb_emit_laws.proofs.Ordered.{is_in, AreSaved}

-- ---- those for which a test holds

only_length : (test : ℕ → Bool) (rs : List ℕ) → length (only test rs) ≤ length rs
only_length test [] = omega arith
only_length test (r ∷ rs) = by_test (test r) (only_length test rs)
  where
    by_test : (b : Bool) → length (only test rs) ≤ length rs → length (if b then r ∷ only test rs else only test rs) ≤ suc (length rs)
    by_test true h = omega (arith, h)
    by_test false h = omega (arith, h)

only_saved : (test : ℕ → Bool) (r n : ℕ) → 18 ≤ r → r + n ≤ 32 → AreSaved (only test (registers_from r n))
only_saved test r zero h top = tt
only_saved test r (suc n) h top = by_test (test r) (only_saved test (r + 1) n (omega (arith, h)) (omega (arith, top)))
  where
    by_test : (b : Bool) → AreSaved (only test (registers_from (r + 1) n)) → AreSaved (if b then r ∷ only test (registers_from (r + 1) n) else only test (registers_from (r + 1) n))
    by_test true k = (record { positive = omega (arith, h); below = omega (arith, top); apart = omega (arith, h); free = inr h }, k)
    by_test false k = k

one_of : (b c : Bool) → (b ≡ false → c ≡ true) → (b || c) ≡ true
one_of true c go = refl
one_of false c go = go refl

-- a register in the range for which the test holds is among those that are taken
only_has : (test : ℕ → Bool) (r low n : ℕ) → low ≤ r → r < low + n → test r ≡ true → is_in r (only test (registers_from low n)) ≡ true
only_has test r low zero h k t = absurd (omega (arith, h, k))
only_has test r low (suc n) h k t = elim (cases_lt low r) [
  | inl less ↦ by_test (test low) (only_has test r (low + 1) n (omega (arith, less)) (omega (arith, k)) t)
  | inr more ↦ here (omega (arith, h, more))
]
  where
    by_test : (b : Bool) → is_in r (only test (registers_from (low + 1) n)) ≡ true
        → is_in r (if b then low ∷ only test (registers_from (low + 1) n) else only test (registers_from (low + 1) n)) ≡ true
    by_test true q = one_of (low == r) (is_in r (only test (registers_from (low + 1) n))) (λ e. q)
    by_test false q = q

    here : low ≡ r → is_in r (if test low then low ∷ only test (registers_from (low + 1) n) else only test (registers_from (low + 1) n)) ≡ true
    here e = ap (λ (b : Bool). is_in r (if b then low ∷ only test (registers_from (low + 1) n) else only test (registers_from (low + 1) n))) (ap test e ∙ t)
        ∙ ap (λ (b : Bool). b || is_in r (only test (registers_from (low + 1) n))) (eq-eqb low r e)

-- ---- the register with the address to return to

link_length : (gs : List ℕ) → length (link_register gs) ≤ 1
link_length [] = omega arith
link_length (g ∷ gs) = omega arith

link_saved : (gs rs : List ℕ) → AreSaved rs → AreSaved (link_register gs ++ rs)
link_saved [] rs h = h
link_saved (g ∷ gs) rs h = (record { positive = omega arith; below = omega arith; apart = omega arith; free = inl (omega arith) }, h)

link_has : (gs rs : List ℕ) (g : ℕ) → Contains gs g → is_in 1 (link_register gs ++ rs) ≡ true
link_has [] rs g h = absurd (omega (arith, h.1))
link_has (x ∷ gs) rs g h = refl

link_rest : (gs rs : List ℕ) (r : ℕ) → is_in r rs ≡ true → is_in r (link_register gs ++ rs) ≡ true
link_rest [] rs r h = h
link_rest (g ∷ gs) rs r h = one_of (1 == r) (is_in r rs) (λ e. h)

-- ---- those of a function

pub saved_few : (h : Routine Place) → length (saved_registers h) ≤ 15
unfolding saved_registers
saved_few h =
    let rest = only (sets_in_routine h) (registers_from 18 14) in
    let few = only_length (sets_in_routine h) (registers_from 18 14) in
    omega (arith, few, link_length (callees h.body), length-append (link_register (callees h.body)) rest)

-- each register of placed code that the function may set
pub saved_has : (h : Routine Place) (r : ℕ) → 18 ≤ r → r < 32 → sets_in_routine h r ≡ true → is_in r (saved_registers h) ≡ true
unfolding saved_registers
saved_has h r l u s = link_rest (callees h.body) (only (sets_in_routine h) (registers_from 18 14)) r (only_has (sets_in_routine h) r 18 14 l (omega (arith, u)) s)

-- and where it calls, the one with the address to return to
pub saved_link : (h : Routine Place) (g : ℕ) → Contains (callees h.body) g → is_in 1 (saved_registers h) ≡ true
unfolding saved_registers
saved_link h g c = link_has (callees h.body) (only (sets_in_routine h) (registers_from 18 14)) g c

pub saved_good : (h : Routine Place) → AreSaved (saved_registers h)
unfolding saved_registers
saved_good h = link_saved (callees h.body) (only (sets_in_routine h) (registers_from 18 14)) (only_saved (sets_in_routine h) 18 14 (omega arith) (omega arith))
