-- What names, numbers, words and signs are spelled like.
use Rattle.std.proofs.Common.{◌≡◌, ℕ, ◌<◌, ◌^◌, Bool, true, false, ◌&&◌, ◌==◌, not, List, [], ◌∷◌, length, refl, sym, ap, subst, ◌∙◌, arith}
use Rattle.std.specs.Prelude.{nat_lt, decimal, Some, None}
use Rattle.std.specs.List.{list_all, list_any, find}
use Rattle.std.specs.Char.{is_ascii_digit, is_digit}
use Rattle.std.specs.Str.{all_ascii_digits}
use Rattle.std.specs.Str.Parse.{digits_value}
use Rattle.std.proofs.lemmas.Bool.{and_parts, and_from, and_left, and_right, or_parts, cond-false, lt-ltb}
use Rattle.std.proofs.lemmas.Bool.Decides.{nat_tests}
use Rattle.std.proofs.lemmas.Fmt.{digits_decimal, digits_value-decimal, decimal_nonempty}
use Rattle.lb_syntax.specs.Names.{Text, IsName, starts_name, is_reserved}
use Rattle.lb_syntax.specs.WellFormed.{IsWord}
use Rattle.lb_syntax.proofs.OpenTermLemmas.{decimal_numerals}
use Rattle.lb_spelling.specs.Tokens.{Numeral, Named, begins_with, same, is_hex, value, spelling, fixed, lexeme}
use Rattle.lb_spelling.proofs.Words.{is_based, number_decimal, same_is, word_parts, name_parts, name_word}
use Rattle.lb_spelling.proofs.Lexing.{number_is, name_is}
use Rattle.lb_printing.proofs.SpelledTokens.{none_passes}

-- ---- names

find_none : {A : Type 0} (p : A → Bool) (xs : List A) → list_any p xs ≡ false → find p xs ≡ None
find_none p [] h = refl
find_none p (x ∷ xs) h =
    let both = or_parts (p x) (list_any p xs) h in
    cond-false (p x) (Some x) (find p xs) both.0 ∙ find_none p xs both.1

abbrev is_free_word : Text → Bool
is_free_word w = starts_name w && not (is_reserved w)

-- no name is in the table
not_fixed : (x : Text) → is_free_word x ≡ true → find (λ t. same (spelling t) x) fixed ≡ None
unfolding is_reserved
not_fixed x h =
    find_none (λ t. same (spelling t) x) fixed
    (none_passes (λ t. same (spelling t) x) (λ t. is_free_word (spelling t)) fixed refl (λ t e. subst (λ (w : Text). is_free_word w ≡ true) (sym (same_is (spelling t) x e)) h))

free_word : (x : Text) → IsName x → is_free_word x ≡ true
free_word x h =
    let parts = name_parts x h in
    and_from (starts_name x) (not (is_reserved x)) (word_parts x parts.word).start (ap not parts.free)

pub name_some : (x : Text) → IsName x → 0 < length x
name_some [] h = let e : starts_name [] ≡ true = (word_parts [] (name_word [] h)).start in absurd cc
name_some (a ∷ u) h = omega arith

pub name_lexeme : (x : Text) → IsName x → lexeme x ≡ Some (Named x)
name_lexeme x h = name_is x (name_word x h) (not_fixed x (free_word x h))

-- ---- numbers

ascii_digit : (b : ℕ) → is_ascii_digit b ≡ true → is_digit b 10 ≡ true
ascii_digit b h = grind (arith, nat_tests)

ascii_digits : (w : Text) → all_ascii_digits w ≡ true → list_all (λ b. is_digit b 10) w ≡ true
ascii_digits [] h = refl
ascii_digits (b ∷ w) h =
    let both = and_parts (is_ascii_digit b) (all_ascii_digits w) h in
    and_from (is_digit b 10) (list_all (λ c. is_digit c 10) w) (ascii_digit b both.0) (ascii_digits w both.1)

no_mark : (b : ℕ) → is_ascii_digit b ≡ true → (120 == b) ≡ false
no_mark b h = grind (arith, nat_tests)

digits_no_hex : (w : Text) → all_ascii_digits w ≡ true → is_hex w ≡ false
unfolding is_hex begins_with
digits_no_hex [] h = refl
digits_no_hex (a ∷ []) h = and_right (48 == a) false refl
digits_no_hex (a ∷ b ∷ w) h =
    let tail = (and_parts (is_ascii_digit a) (all_ascii_digits (b ∷ w)) h).1 in
    let digit = (and_parts (is_ascii_digit b) (all_ascii_digits w) tail).0 in
    and_right (48 == a) ((120 == b) && true) (and_left (120 == b) true (no_mark b digit))

value_is : (w : Text) → is_hex w ≡ false → value w ≡ digits_value 10 w
unfolding value
value_is w hex = rw hex refl

digits_lexeme : (w : Text) (n : ℕ) → all_ascii_digits w ≡ true → 0 < length w → digits_value 10 w ≡ n → n < 2 ^ 32 → lexeme w ≡ Some (Numeral n)
digits_lexeme [] n all some is small = absurd (omega (arith, some))
digits_lexeme (a ∷ w) n all some is small =
    let hex = digits_no_hex (a ∷ w) all in
    let valued = value_is (a ∷ w) hex ∙ is in
    let based : is_based 10 (a ∷ w) ≡ true = and_from (list_all (λ b. is_digit b 10) (a ∷ w)) (nat_lt (digits_value 10 (a ∷ w)) (2 ^ 32)) (ascii_digits (a ∷ w) all) (lt-ltb _ _ (omega (arith, is, small))) in
    number_is (a ∷ w) (number_decimal (a ∷ w) hex ∙ based) ∙ ap (λ (v : ℕ). Some (Numeral v)) valued

pub decimal_digits : (n : ℕ) → IsWord n → all_ascii_digits (decimal n) ≡ true
decimal_digits n h = digits_decimal decimal_numerals n (omega (arith, h))

pub decimal_some : (n : ℕ) → IsWord n → 0 < length (decimal n)
decimal_some n h = decimal_nonempty n (omega (arith, h))

pub decimal_lexeme : (n : ℕ) → IsWord n → lexeme (decimal n) ≡ Some (Numeral n)
decimal_lexeme n h = digits_lexeme (decimal n) n (decimal_digits n h) (decimal_some n h) (digits_value-decimal decimal_numerals n (omega (arith, h))) h
