-- Numbers, digit by digit.
use Rattle.std.proofs.Common.{◌≡◌, ℕ, ◌+◌, ◌*◌, ◌^◌, ◌<◌, ◌≤◌, Bool, true, false, not, ◌&&◌, List, [], ◌∷◌, ◌++◌, length, refl, sym, ap, ◌∙◌, append_assoc, arith, inl, inr}
use Rattle.std.specs.Char.{is_digit, digit_value}
use Rattle.std.specs.List.{list_all, list_any}
use Rattle.std.specs.Str.Parse.{digits_value}
use Rattle.std.proofs.lemmas.Bool.{true≢false, and_parts, and_from, lt-ltb, le-ltb}
use Rattle.std.proofs.lemmas.Int.Digits.{digits_value_push}
use Rattle.std.proofs.lemmas.List.Folds.{list_all-append}
use Rattle.lb_spelling.specs.declared.fault.TextKind.TheVariants as kinds
use Rattle.lb_spelling.specs.Tokens.{Token, spelling, fixed, is_word_byte, begins_with}
use Rattle.lb_spelling.specs.InternalMachine.{unexpected}
use Rattle.lb_spelling.proofs.Words.{false_from, digit_word, begins_with_is, head_or}
use Rattle.lb_spelling.proofs.Lexing.{pick}
use Rattle.lb_scan.specs.InternalScanning.{begins_with_digit, EndsRun, ReadsDigits, DigitsFault}

-- ---- the loop

-- the digits before rest have this value
pub record DigitsTo (radix : ℕ) (s : List ℕ) (value : ℕ) (rest : List ℕ) : Type 0 where
  pub before : List ℕ
  pub parts : s ≡ before ++ rest
  pub all : list_all (λ b. is_digit b radix) before ≡ true
  pub value_is : digits_value radix before ≡ value
  pub small : value < 2 ^ 32

pub digits_begin : (radix : ℕ) (s : List ℕ) → DigitsTo radix s 0 s
digits_begin radix s = record { before = []; parts = refl; all = refl; value_is = refl; small = omega arith }

pub digits_more : (radix : ℕ) (s : List ℕ) (v b d : ℕ) (rest : List ℕ) → DigitsTo radix s v (b ∷ rest) → digit_value b ≡ d → d < radix → v * radix + d < 2 ^ 32 → DigitsTo radix s (v * radix + d) rest
digits_more radix s v b d rest p e h small = record {
  before = p.before ++ b ∷ [];
  parts = p.parts ∙ sym (append_assoc p.before (b ∷ []) rest);
  all = list_all-append (λ b. is_digit b radix) p.before (b ∷ []) ∙ and_from _ _ p.all (and_from _ _ (lt-ltb _ _ (let g : digit_value b < radix = rw e h in g)) refl);
  value_is = digits_value_push radix p.before b ∙ rw (p.value_is, e) refl;
  small = small;
}

-- what stands before rest is not nothing, where rest is behind the first digit
some_before : (radix : ℕ) (s before rest : List ℕ) → begins_with_digit radix s ≡ true → s ≡ before ++ rest → begins_with_digit radix rest ≡ false → 0 < length before
some_before radix s [] rest e p n = absurd (true≢false (sym e ∙ (ap (λ (u : List ℕ). begins_with_digit radix u) p ∙ n)))
some_before radix s (b ∷ before) rest e p n = omega arith

no_digit_there : (radix b : ℕ) → radix ≤ 36 → is_word_byte b ≡ false → is_digit b radix ≡ false
no_digit_there radix b h e = false_from _ (λ d. true≢false (sym (digit_word b radix h d) ∙ e))

pub digits_end : (radix : ℕ) (s : List ℕ) (v : ℕ) (rest : List ℕ) → radix ≤ 16 → begins_with_digit radix s ≡ true → EndsRun rest → DigitsTo radix s v rest → ReadsDigits radix s v rest
digits_end radix s v rest h e ends p = record {
  before = p.before;
  digits = record { parts = p.parts; some = some_before radix s p.before rest e p.parts (none rest ends); all = p.all; small = rw (p.value_is) p.small };
  value_is = p.value_is;
  ends = ends;
} where
  none : (rest : List ℕ) → EndsRun rest → begins_with_digit radix rest ≡ false
  none [] ends = refl
  none (b ∷ rest) ends = no_digit_there radix b (omega arith) ends

pub digits_unexpected : (radix : ℕ) (s : List ℕ) (v b : ℕ) (rest : List ℕ) → begins_with_digit radix s ≡ true → DigitsTo radix s v (b ∷ rest) → is_word_byte b ≡ true → radix ≤ digit_value b
    → DigitsFault radix s (record { kind = unexpected b; left = length (b ∷ rest) })
digits_unexpected radix s v b rest e p w h =
    let none : is_digit b radix ≡ false = le-ltb _ _ h in
    record {
      before = p.before;
      byte = b;
      more = rest;
      digits = record { parts = p.parts; some = some_before radix s p.before (b ∷ rest) e p.parts none; all = p.all; small = rw (p.value_is) p.small };
      in_run = w;
      left = refl;
      kind = inl (none, refl);
    }

-- one digit alone is no number over the limit
some_digits : (radix : ℕ) (s before : List ℕ) (v b d : ℕ) (rest : List ℕ) → s ≡ before ++ b ∷ rest → digits_value radix before ≡ v → d < 16 → 2 ^ 32 ≤ v * radix + d → 0 < length before
some_digits radix s [] v b d rest p e h wide = absurd (let z : 0 ≡ v = e in let w : 2 ^ 32 ≤ 0 * radix + d = rw z wide in omega arith)
some_digits radix s (c ∷ before) v b d rest p e h wide = omega arith

pub digits_wide : (radix : ℕ) (s : List ℕ) (v b d : ℕ) (rest : List ℕ) → radix ≤ 16 → DigitsTo radix s v (b ∷ rest) → is_word_byte b ≡ true → digit_value b ≡ d → d < radix → 2 ^ 32 ≤ v * radix + d
    → DigitsFault radix s (record { kind = kinds.NumberTooWide; left = length (b ∷ rest) })
digits_wide radix s v b d rest r p w e h wide = record {
  before = p.before;
  byte = b;
  more = rest;
  digits = record { parts = p.parts; some = some_digits radix s p.before v b d rest p.parts p.value_is (omega arith) wide; all = p.all; small = rw (p.value_is) p.small };
  in_run = w;
  left = refl;
  kind = inr (lt-ltb _ _ (let g : digit_value b < radix = rw e h in g), (let m : digits_value radix (p.before ++ b ∷ []) ≡ v * radix + d = digits_value_push radix p.before b ∙ rw (p.value_is, e) refl in rw m wide), refl);
}

-- ---- nothing but a number begins with a digit

abbrev no_digit_first : Token → Bool
no_digit_first t = not (is_digit (head_or (spelling t)) 10)

table_words : list_all no_digit_first fixed ≡ true
table_words = refl

pub begun_first : (a : ℕ) (u w : List ℕ) → begins_with (a ∷ u) w ≡ true → head_or w ≡ a
begun_first a u w e = let p = begins_with_is (a ∷ u) w e in rw (p.1) refl

-- the spelling of no token of the table begins with a digit
pub none_fixed : (p : Token → Bool) (a : ℕ) (u : List ℕ) → is_digit a 10 ≡ true → list_any (λ t. p t && begins_with (a ∷ u) (spelling t)) fixed ≡ false
none_fixed p a u d = false_from _ (λ e.
    let q = pick no_digit_first (λ t. p t && begins_with (a ∷ u) (spelling t)) fixed table_words e in
    let is = begun_first a u (spelling q.0) (and_parts (p q.0) (begins_with (a ∷ u) (spelling q.0)) q.2).1 in
    true≢false (sym q.1 ∙ rw (is, d) refl))
