-- A wait that ends after 1,000 turns.
use Rattle.std.proofs.Common.{◌≡◌, ℕ, zero, suc, ◌+◌, ◌≤◌, ◌<◌, List, ◌++◌, refl, sym, ap, ◌∙◌, subst, arith, bit_and}
use Rattle.std.proofs.lemmas.Bool.Decides.{nat_tests}
use Rattle.std.proofs.lemmas.Nat.{and_le_l}
use Rattle.lb_word.specs.Word.{ltu_of, sub_of}
use Rattle.lb_trace.specs.declared.Event.{Event}
use Rattle.lb_grammar.specs.Forms.{Form, Sequence, at_most, Repeated, Is}
use Rattle.lb_bulb.proofs.FormLemmas.{times_more, at_most_is}

-- the flag, and how many turns are left: all turns so far were in vain, or the last one wasn't
pub data Patient (again end : Form) : ℕ → ℕ → List Event → Type 0 where
  waits : {n : ℕ} → {l : List Event} → (k : ℕ) → k + n ≡ 1000 → Repeated (Is again) k l → Patient again end 1 n l
  ended : {n : ℕ} → {l : List Event} → Is (Sequence (at_most 999 again) end) l → Patient again end 0 n l

-- turns were made, and more are left
pub record Waits (again : Form) (flag n : ℕ) (l : List Event) : Type 0 where
  pub count : ℕ
  pub sum : count + n ≡ 1000
  pub left : 0 < n
  pub turns : Repeated (Is again) count l
  pub set : flag ≡ 1

-- the wait was given up, or not
pub data Waited (again end : Form) : ℕ → List Event → Type 0 where
  in_vain : {l : List Event} → Repeated (Is again) 1000 l → Waited again end 1 l
  served : {l : List Event} → Is (Sequence (at_most 999 again) end) l → Waited again end 0 l

none_left : bit_and 1 (ltu_of 0 0) ≡ 0
none_left = refl

some_left : (n : ℕ) → 0 < n → ltu_of 0 n ≡ 1
some_left n h = grind (arith, nat_tests)

goes_on_set : (n k : ℕ) → bit_and 1 (ltu_of 0 n) ≡ suc k → 0 < n
goes_on_set zero k h = absurd (let z : 0 ≡ suc k = sym none_left ∙ h in omega (arith, z))
goes_on_set (suc n) k h = omega arith

goes_on_clear : (x k : ℕ) → bit_and 0 x ≡ suc k → ⊥
goes_on_clear x k h = let z : bit_and 0 x ≤ 0 = and_le_l 0 x in omega (arith, z, h)

out_of_turns : (n : ℕ) → bit_and 1 (ltu_of 0 n) ≡ 0 → n ≡ 0
out_of_turns zero h = refl
out_of_turns (suc n) h =
    let e : ltu_of 0 (suc n) ≡ 1 = some_left (suc n) (omega arith) in
    let one : bit_and 1 1 ≡ 1 = refl in
    let z : 1 ≡ 0 = sym one ∙ sym (ap (λ (x : ℕ). bit_and 1 x) e) ∙ h in
    absurd (omega (arith, z))

-- the condition is met
pub still_waits : (again end : Form) (flag n k : ℕ) (l : List Event) → Patient again end flag n l → bit_and flag (ltu_of 0 n) ≡ suc k → Waits again flag n l
still_waits again end flag n k l (waits j e t) h = record { count = j; sum = e; left = goes_on_set n k h; turns = t; set = refl }
still_waits again end flag n k l (ended i) h = absurd (goes_on_clear (ltu_of 0 n) k h)

-- it isn't
pub has_waited : (again end : Form) (flag n : ℕ) (l : List Event) → Patient again end flag n l → bit_and flag (ltu_of 0 n) ≡ 0 → Waited again end flag l
has_waited again end flag n l (waits j e t) h =
    let z : n ≡ 0 = out_of_turns n h in
    let y : j ≡ 1000 = omega (arith, e, z) in
    in_vain (subst (λ (q : ℕ). Repeated (Is again) q l) y t)
has_waited again end flag n l (ended i) h = served i

-- one turn more
pub one_turn : (again end : Form) (flag n : ℕ) (l m : List Event) → Waits again 1 n l → flag ≤ 1 → (flag ≡ 1 → Is again m) → (flag ≡ 0 → Is end m) → Patient again end flag (sub_of n 1) (l ++ m)
one_turn again end zero n l m w h f g =
    let few : w.count ≤ 999 = omega (arith, w.sum, w.left) in
    ended (at_most_is w.count 999 again end l m few w.turns (g refl))
one_turn again end (suc zero) n l m w h f g =
    let e : suc w.count + sub_of n 1 ≡ 1000 = omega (arith, w.sum, w.left) in
    waits (suc w.count) e (times_more w.count (Is again) l m w.turns (f refl))
one_turn again end (suc (suc flag)) n l m w h f g = absurd (omega (arith, h))
