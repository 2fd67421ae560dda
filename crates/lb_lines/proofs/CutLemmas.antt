-- The first piece of a text.
use Rattle.std.proofs.Common.{◌≡◌, ℕ, ◌+◌, ◌<◌, ◌≤◌, ◌==◌, Bool, true, false, not, cond, nat_lt, List, [], ◌∷◌, ◌++◌, length, map, take, drop, get_or, Some, None, refl, sym, ap, ◌∙◌, arith, add-one}
use Rattle.std.specs.List.{All, slice_split, position, position_or_len}
use Rattle.std.specs.Str.Lines.{strip_carriage_return}
use Rattle.std.proofs.Math.Seq.{split_at}
use Rattle.std.proofs.lemmas.Bool.Decides.{nat_tests}
use Rattle.std.proofs.lemmas.List.{get_or-take, get_or_default, length-take-le}
use Rattle.std.proofs.lemmas.List.Quantifiers.{position-Some}
use Rattle.std.proofs.lemmas.List.Splits.{slice_split_at, slice_split_none}
use Rattle.std.proofs.lemmas.List.Sums.{prefix_len_passes}
use Rattle.lb_lines.specs.Lines.{pieces_of}

not_found : (n len : ℕ) → cond (nat_lt n len) (Some n) None ≡ None → len ≤ n
not_found n len e = grind (arith, nat_tests)

false_from_not : (b : Bool) → not b ≡ true → b ≡ false
false_from_not true e = sym e
false_from_not false e = refl

none_passes : (p : ℕ → Bool) (xs : List ℕ) → position p xs ≡ None → All (λ x. p x ≡ false) xs
none_passes p xs e =
    let len : length xs ≤ position_or_len p xs = not_found (position_or_len p xs) (length xs) e in
    λ k d h. false_from_not (p (get_or xs k d)) (prefix_len_passes (λ x. not (p x)) xs k d (omega (arith, len, h)))

none_before : (p : ℕ → Bool) (xs : List ℕ) (i : ℕ) → i < length xs → ((k : ℕ) → k < i → p (get_or xs k 0) ≡ false) → All (λ x. p x ≡ false) (take i xs)
none_before p xs i h below =
    let len : length (take i xs) ≡ i = length-take-le i xs (omega (arith, h)) in
    λ k d m.
    ap p (get_or-take i xs k d (omega (arith, len, m)) ∙ get_or_default xs k d 0 (omega (arith, len, m, h)))
    ∙ below k (omega (arith, len, m))

-- the piece before the first line feed, and those behind it
pub first_of_some : (text : List ℕ) (end : ℕ) → position (λ b. b == 10) text ≡ Some end
    → pieces_of text ≡ strip_carriage_return (take end text) ∷ pieces_of (drop (end + 1) text)
first_of_some text end e =
    let at = position-Some (λ b. b == 10) text end 0 e in
    let parts : text ≡ take end text ++ get_or text end 0 ∷ drop (end + 1) text = rw add-one (split_at text end 0 at.0) in
    ap (map strip_carriage_return)
    (ap (slice_split (λ b. b == 10)) parts
    ∙ slice_split_at (λ b. b == 10) (take end text) (get_or text end 0) (drop (end + 1) text) (none_before (λ b. b == 10) text end at.0 at.2) at.1)

-- without a line feed there is one piece
pub first_of_none : (text : List ℕ) → position (λ b. b == 10) text ≡ None → pieces_of text ≡ strip_carriage_return text ∷ []
first_of_none text e = ap (map strip_carriage_return) (slice_split_none (λ b. b == 10) text (none_passes (λ b. b == 10) text e))
