-- A place in a list, and what is left from it on.
use Rattle.std.proofs.Common.{◌≡◌, ℕ, zero, suc, Bool, true, false, nat_lt, List, [], ◌∷◌, length, drop, slice_index, arith}
use Rattle.std.proofs.lemmas.Bool.Decides.{nat_tests}

pub record IsNext (bytes : List ℕ) (place b : ℕ) (rest : List ℕ) : Type 0 where
  pub within : nat_lt place (length bytes) ≡ true
  pub byte : slice_index bytes place ≡ b
  pub after : drop (suc place) bytes ≡ rest

one_on : (m n : ℕ) (t : Bool) → nat_lt m n ≡ t → nat_lt (suc m) (suc n) ≡ t
one_on m n true h = grind (arith, nat_tests)
one_on m n false h = grind (arith, nat_tests)

first_within : (n : ℕ) → nat_lt 0 (suc n) ≡ true
first_within n = grind (arith, nat_tests)

none_within : (n : ℕ) → nat_lt n 0 ≡ false
none_within n = grind (arith, nat_tests)

pub is_next : (bytes : List ℕ) (place b : ℕ) (rest : List ℕ) → drop place bytes ≡ b ∷ rest → IsNext bytes place b rest
is_next [] zero b rest h = absurd (let z : ⊥ = cc in z)
is_next [] (suc place) b rest h = absurd (let z : ⊥ = cc in z)
is_next (x ∷ bytes) zero b rest h =
    let head : x ≡ b = cc in
    let tail : bytes ≡ rest = cc in
    record { within = first_within (length bytes); byte = head; after = tail }
is_next (x ∷ bytes) (suc place) b rest h =
    let g : IsNext bytes place b rest = is_next bytes place b rest h in
    record { within = one_on place (length bytes) true g.within; byte = g.byte; after = g.after }

pub none_next : (bytes : List ℕ) (place : ℕ) → drop place bytes ≡ [] → nat_lt place (length bytes) ≡ false
none_next [] place h = none_within place
none_next (x ∷ bytes) zero h = absurd (let z : ⊥ = cc in z)
none_next (x ∷ bytes) (suc place) h = one_on place (length bytes) false (none_next bytes place h)
