-- Bytes that are read from their digits.
use Rattle.std.proofs.Common.{◌≡◌, ℕ, ◌/◌, ◌%◌, ◌<◌, ◌≤◌, List, [], ◌∷◌, ◌++◌, length, take, drop, get_or, sym, ap, ap₂, ◌∙◌, arith, append_assoc}
use Rattle.std.specs.List.{flat_map}
use Rattle.std.specs.Char.{digit_char, to_ascii_lowercase}
use Rattle.std.proofs.lemmas.List.{map-append}
use Rattle.std.proofs.lemmas.List.Concat.{flat_map-append}
use Rattle.std.proofs.lemmas.List.Elements.{All-push}
use Rattle.lb_lines.specs.Digits.{lowered, hex_byte, SpellsBytes}
use Rattle.lb_lines.specs.InternalReading.{IsDigit}
use Rattle.lb_lines.proofs.PairLemmas.{pair_within, no_single, two_first, one_left}

-- the digits before the rest are these bytes
pub record AreBytesSoFar (digits rest bytes : List ℕ) : Type 0 where
  pub front : List ℕ
  pub whole : digits ≡ front ++ rest
  pub spelled : SpellsBytes front bytes

pub bytes_more : (digits rest pair behind bytes : List ℕ) (b : ℕ) → 2 ≤ length rest → pair ≡ take 2 rest → behind ≡ drop 2 rest → b < 256
    → IsDigit (get_or pair 0 0) (b / 16) → IsDigit (get_or pair 1 0) (b % 16) → AreBytesSoFar digits rest bytes → AreBytesSoFar digits behind (bytes ++ b ∷ [])
bytes_more digits rest pair behind bytes b h e e' small high low so =
    let two : List ℕ = get_or pair 0 0 ∷ get_or pair 1 0 ∷ [] in
    record {
      front = so.front ++ two;
      whole = so.whole ∙ ap (λ l. so.front ++ l) (two_first rest pair behind h e e') ∙ sym (append_assoc so.front two behind);
      spelled = record {
        fit = All-push (λ x. x < 256) bytes b so.spelled.fit small;
        digits =
            map-append to_ascii_lowercase so.front two
            ∙ ap₂ (λ l r. l ++ r) so.spelled.digits (ap₂ (λ x y. x ∷ y ∷ []) high.char low.char)
            ∙ sym (flat_map-append hex_byte bytes (b ∷ []));
      };
    }

-- two characters that aren't a byte's digits
pub no_pair : (digits rest pair behind bytes : List ℕ) → 2 ≤ length rest → pair ≡ take 2 rest → behind ≡ drop 2 rest
    → ((h l : ℕ) → IsDigit (get_or pair 0 0) h → IsDigit (get_or pair 1 0) l → ⊥) → AreBytesSoFar digits rest bytes
    → (others : List ℕ) → SpellsBytes digits others → ⊥
no_pair digits rest pair behind bytes h e e' none so others s =
    let text : flat_map hex_byte bytes ++ lowered (get_or pair 0 0 ∷ get_or pair 1 0 ∷ behind) ≡ flat_map hex_byte others =
    ap (λ l. l ++ lowered (get_or pair 0 0 ∷ get_or pair 1 0 ∷ behind)) (sym so.spelled.digits)
    ∙ sym (map-append to_ascii_lowercase so.front (get_or pair 0 0 ∷ get_or pair 1 0 ∷ behind))
    ∙ ap (λ l. lowered (so.front ++ l)) (sym (two_first rest pair behind h e e'))
    ∙ ap lowered (sym so.whole) ∙ s.digits
    in
    let at = pair_within (λ b. digit_char (b / 16)) (λ b. digit_char (b % 16)) (λ b. b < 256) bytes others _ _ _ s.fit text in
    let small : at.0 < 256 = at.1 in
    none (at.0 / 16) (at.0 % 16) (record { below = omega arith; char = at.2 }) (record { below = omega arith; char = at.3 })

-- a single character at the end
pub no_end : (digits rest bytes : List ℕ) → length rest ≤ 1 → (length rest ≡ 0 → ⊥) → AreBytesSoFar digits rest bytes
    → (others : List ℕ) → SpellsBytes digits others → ⊥
no_end digits rest bytes short some so others s =
    let one = one_left rest short some in
    no_single (λ b. digit_char (b / 16)) (λ b. digit_char (b % 16)) bytes others (to_ascii_lowercase one.0)
    (ap (λ l. l ++ lowered (one.0 ∷ [])) (sym so.spelled.digits)
    ∙ sym (map-append to_ascii_lowercase so.front (one.0 ∷ []))
    ∙ ap (λ l. lowered (so.front ++ l)) (sym one.1)
    ∙ ap lowered (sym so.whole) ∙ s.digits)
