-- What the test of a field's range says.
use Rattle.std.proofs.Common.{◌≡◌, ℕ, ◌%◌, ◌≤◌, true, eq-eqb, lt-ltb, le-leb}
use Rattle.std.proofs.lemmas.Bool.{and_parts, eqb-true, ltb-true, leb-true}
use Rattle.lb_image.specs.declared.field.FieldRange.TheVariants.{Numbers, Multiples}
use Rattle.lb_image.specs.Images.{IsMultipleBelow}
use Rattle.lb_image.specs.Fields.{is_in}

pub in_numbers : (least most w : ℕ) → is_in (Numbers least most) w ≡ true → (least ≤ w) × (w ≤ most)
in_numbers least most w h = let p = and_parts _ _ h in (leb-true _ _ p.0, leb-true _ _ p.1)

pub in_multiples : (below w : ℕ) → is_in (Multiples below) w ≡ true → IsMultipleBelow below w
in_multiples below w h = let p = and_parts _ _ h in (eqb-true _ _ p.0, ltb-true _ _ p.1)

pub is_in_numbers : (least most w : ℕ) → least ≤ w → w ≤ most → is_in (Numbers least most) w ≡ true
is_in_numbers least most w low high = rw (le-leb least w low, le-leb w most high)

pub is_in_multiples : (below w : ℕ) → IsMultipleBelow below w → is_in (Multiples below) w ≡ true
is_in_multiples below w h = rw (eq-eqb (w % 4) 0 h.0, lt-ltb w below h.1)
