-- What cells hold after one is written, and the values read from cells that hold as much as others.
use Rattle.std.proofs.Common.{◌≡◌, ◌≢◌, ℕ, true, List, Option, Some, None, Result, Ok, Err, refl, ap, ◌∙◌, eq-eqb, eqb-true}
use Rattle.std.specs.Prelude.{if◌then◌else◌}
use Rattle.lb_source.specs.declared.ends.Reason.{Reason}
use Rattle.lb_source.specs.Value.{or_unset, before}
use Rattle.lb_flat.specs.declared.places.Place.{Place}
use Rattle.lb_flat.specs.declared.places.Place.TheVariants.{Register, Slot}
use Rattle.lb_flat.specs.Cells.{Cells, same_place, put}
use Rattle.lb_flat.proofs.BooleanLemmas.{is_false}

pub same_place_equal : (p q : Place) → same_place p q ≡ true → p ≡ q
same_place_equal (Register r) (Register s) e = ap Register (eqb-true r s e)
same_place_equal (Register r) (Slot j) e = cc
same_place_equal (Slot i) (Register s) e = cc
same_place_equal (Slot i) (Slot j) e = ap Slot (eqb-true i j e)

pub same_place_self : (p : Place) → same_place p p ≡ true
same_place_self (Register r) = eq-eqb r r refl
same_place_self (Slot i) = eq-eqb i i refl

pub put_same : (p : Place) (o : Option ℕ) (cells : Cells) → put p o cells p ≡ o
put_same p o cells = ap (λ b. if b then o else cells p) (same_place_self p)

pub put_other : (p q : Place) (o : Option ℕ) (cells : Cells) → p ≢ q → put p o cells q ≡ cells q
put_other p q o cells apart = ap (λ b. if b then o else cells q) (is_false (same_place p q) (λ e. apart (same_place_equal p q e)))

number_of : Place → ℕ
number_of (Register r) = r
number_of (Slot i) = i

pub slots_differ : (i j : ℕ) → i ≢ j → Slot i ≢ Slot j
unfolding number_of
slots_differ i j ne e = ne (ap number_of e)

-- ---- values read

-- what the first has, the second has
abbrev pub HasAll : Option ℕ → Option ℕ → Type 0
HasAll o q = (v : ℕ) → o ≡ Some v → q ≡ Some v

-- a value of the first is that of the second
abbrev pub SameValue : {A : Type 0} → Result A Reason → Result A Reason → Type 0
SameValue {A} r s = (v : A) → r ≡ Ok v → s ≡ Ok v

pub one_read : (o q : Option ℕ) → HasAll o q → SameValue (or_unset o) (or_unset q)
one_read None q h v e = cc
one_read (Some w) q h v e = ap or_unset (h w refl) ∙ e

pub more_read : (o q : Option ℕ) (r s : Result (List ℕ) Reason) → HasAll o q → SameValue r s → SameValue (before (or_unset o) r) (before (or_unset q) s)
more_read None q r s h k vs e = cc
more_read (Some v) q (Err f) s h k vs e = cc
more_read (Some v) q (Ok ws) s h k vs e = ap (λ o. before (or_unset o) s) (h v refl) ∙ ap (λ t. before (Ok v) t) (k ws refl) ∙ e
