-- A digit that the machine doesn't take makes its number too great.
use Rattle.std.proofs.Common.{◌≡◌, ℕ, ◌^◌, ◌≤◌, Bool, true, false, not, ◌&&◌, ◌||◌, List, [], ◌∷◌, ◌++◌, refl, sym, ap, subst, ◌∙◌, arith, inl, inr, eqb}
use Rattle.std.specs.Prelude.{is_some}
use Rattle.std.specs.List.{list_all, list_any}
use Rattle.std.specs.Char.{is_digit}
use Rattle.std.specs.Str.Parse.{digits_value}
use Rattle.std.proofs.lemmas.Bool.{true≢false, false≢true, and_parts, and_from, or_cases, or_parts, ltb-false, eqb-true, cases_Bool, not-true}
use Rattle.std.proofs.lemmas.List.Folds.{list_all-append}
use Rattle.lb_spelling.specs.declared.symbol.Symbol.{Symbol}
use Rattle.lb_spelling.specs.Tokens.{Token, Numeral, Named, is_word_byte, hex_mark, is_hex, is_digit_of, value, is_empty, is_number, is_word, spelling, fixed, begins_with, same, comment_start}
use Rattle.lb_spelling.specs.InternalMachine.{Stack, next, begins, begins_one, begins_number}
use Rattle.lb_spelling.proofs.Words.{false_from, begins_with_is, head_or, word_byte_is, digit_word, is_based, number_hex, number_decimal, hex_is, based_all, number_bytes, word_parts, no_number}
use Rattle.lb_spelling.proofs.Lexing.{pick}

pub digit_of_word : (w : List ℕ) (b : ℕ) → is_digit_of w b ≡ true → is_word_byte b ≡ true
unfolding is_digit_of
digit_of_word w b e = elim (cases_Bool (is_hex w)) [
  | inl h ↦ digit_word b 16 (omega arith) (rw h at e)
  | inr h ↦ digit_word b 10 (omega arith) (rw h at e)
]

-- ---- one digit more

based_wide : (r : ℕ) (ds : List ℕ) (b : ℕ) → list_all (λ b. is_digit b r) ds ≡ true → is_digit b r ≡ true → is_based r (ds ++ b ∷ []) ≡ false → 2 ^ 32 ≤ digits_value r (ds ++ b ∷ [])
based_wide r ds b all d none = ltb-false (digits_value r (ds ++ b ∷ [])) (2 ^ 32) (false_from _ (λ small. true≢false (sym (and_from (not (is_empty (ds ++ b ∷ [])) && list_all (λ b. is_digit b r) (ds ++ b ∷ [])) _ (and_from _ _ (some ds) digits_all) small) ∙ none))) where
  some : (ds : List ℕ) → not (is_empty (ds ++ b ∷ [])) ≡ true
  some [] = refl
  some (d ∷ ds) = refl

  digits_all : list_all (λ b. is_digit b r) (ds ++ b ∷ []) ≡ true
  digits_all = list_all-append (λ b. is_digit b r) ds (b ∷ []) ∙ and_from _ _ all (and_from (is_digit b r) true d refl)

pub value_hex : (ds : List ℕ) → value (48 ∷ 120 ∷ ds) ≡ digits_value 16 ds
unfolding value is_hex begins_with
value_hex ds = refl

pub value_decimal : (w : List ℕ) → is_hex w ≡ false → value w ≡ digits_value 10 w
unfolding value
value_decimal w h = rw h refl

hex_wide : (ds : List ℕ) (b : ℕ) → is_number (48 ∷ 120 ∷ ds) ≡ true → is_digit b 16 ≡ true → is_number (48 ∷ 120 ∷ ds ++ b ∷ []) ≡ false → 2 ^ 32 ≤ value (48 ∷ 120 ∷ ds ++ b ∷ [])
hex_wide ds b n d none = rw (value_hex (ds ++ b ∷ [])) (based_wide 16 ds b (based_all 16 ds (sym (number_hex ds) ∙ n)) d (sym (number_hex (ds ++ b ∷ [])) ∙ none))

-- no mark comes of a decimal digit
still_decimal : (a : ℕ) (w : List ℕ) (b : ℕ) → is_hex (a ∷ w) ≡ false → is_digit b 10 ≡ true → is_hex (a ∷ w ++ b ∷ []) ≡ false
unfolding is_hex begins_with
still_decimal a w b h d = false_from _ (λ g. let p = hex_is (a ∷ w ++ b ∷ []) g in no_mark w p.0 h p.1) where
  no_mark : (w ds : List ℕ) → is_hex (a ∷ w) ≡ false → a ∷ w ++ b ∷ [] ≡ 48 ∷ 120 ∷ ds → ⊥
  no_mark [] ds h e = (let is : b ≡ 120 = (let t : b ∷ [] ≡ 120 ∷ ds = cc in cc) in let x : is_digit 120 10 ≡ true = rw is at d in false≢true x)
  no_mark (c ∷ w) ds h e = (let t : c ∷ w ++ b ∷ [] ≡ 120 ∷ ds = cc in let is : a ≡ 48 = cc in let is' : c ≡ 120 = cc in true≢false (rw (is, is') at h))

pub number_wide : (a : ℕ) (w : List ℕ) (b : ℕ) → is_number (a ∷ w) ≡ true → is_digit_of (a ∷ w) b ≡ true → is_number (a ∷ w ++ b ∷ []) ≡ false → 2 ^ 32 ≤ value (a ∷ w ++ b ∷ [])
unfolding is_digit_of
number_wide a w b n d none = elim (cases_Bool (is_hex (a ∷ w))) [
  | inl h ↦ (let p = hex_is (a ∷ w) h in marked p.0 p.1 n (rw h at d) none)
  | inr h ↦ (let d' : is_digit b 10 ≡ true = rw h at d in
      let g : is_hex (a ∷ w ++ b ∷ []) ≡ false = still_decimal a w b h d' in
      rw (value_decimal (a ∷ w ++ b ∷ []) g) (based_wide 10 (a ∷ w) b (based_all 10 (a ∷ w) (sym (number_decimal (a ∷ w) h) ∙ n)) d' (sym (number_decimal (a ∷ w ++ b ∷ []) g) ∙ none)))
] where
  marked : (ds : List ℕ) → a ∷ w ≡ 48 ∷ 120 ∷ ds → is_number (a ∷ w) ≡ true → is_digit b 16 ≡ true → is_number (a ∷ w ++ b ∷ []) ≡ false → 2 ^ 32 ≤ value (a ∷ w ++ b ∷ [])
  marked ds e n d none = subst (λ (u : List ℕ). 2 ^ 32 ≤ value (u ++ b ∷ [])) (sym e) (hex_wide ds b (subst (λ (u : List ℕ). is_number u ≡ true) e n) d (subst (λ (u : List ℕ). is_number (u ++ b ∷ []) ≡ false) e none))

-- ---- where a number was begun, one is expected

number_head : (a : ℕ) (w : List ℕ) → is_number (a ∷ w) ≡ true → is_digit a 10 ≡ true
number_head a w n = elim (cases_Bool (is_hex (a ∷ w))) [
  | inl h ↦ (let p = hex_is (a ∷ w) h in let e = p.1 in let is : a ≡ 48 = cc in rw is refl)
  | inr h ↦ (and_parts (is_digit a 10) (list_all (λ b. is_digit b 10) w) (based_all 10 (a ∷ w) (sym (number_decimal (a ∷ w) h) ∙ n))).0
]

abbrev no_digit_first : Token → Bool
no_digit_first t = not (is_digit (head_or (spelling t)) 10)

number_expected_one : (x : Symbol) (a : ℕ) (w : List ℕ) → begins_one x (a ∷ w) ≡ true → is_number (a ∷ w) ≡ true → is_some (next x (Numeral 0)) ≡ true
unfolding begins_one
number_expected_one x a w e n = elim (or_cases (number_part || word_part) table_part e) [
  | inr f ↦ absurd (let p = pick no_digit_first (λ t. is_some (next x t) && begins_with (a ∷ w) (spelling t)) fixed refl f in
      let q = and_parts (is_some (next x p.0)) (begins_with (a ∷ w) (spelling p.0)) p.2 in
      let v = begins_with_is (a ∷ w) (spelling p.0) q.1 in
      let is : head_or (spelling p.0) ≡ a = ap head_or v.1 in
      true≢false (sym (number_head a w n) ∙ not-true _ (rw is at p.1)))
  | inl d ↦ elim (or_cases number_part word_part d) [
    | inl g ↦ (and_parts (is_some (next x (Numeral 0))) (begins_number (a ∷ w)) g).0
    | inr g ↦ absurd (true≢false (sym n ∙ no_number (a ∷ w) (word_parts (a ∷ w) (and_parts (is_some (next x (Named []))) (is_word (a ∷ w)) g).1).start))
  ]
] where
  number_part : Bool
  number_part = is_some (next x (Numeral 0)) && begins_number (a ∷ w)

  word_part : Bool
  word_part = is_some (next x (Named [])) && is_word (a ∷ w)

  table_part : Bool
  table_part = list_any (λ t. is_some (next x t) && begins_with (a ∷ w) (spelling t)) fixed

no_slash : (a : ℕ) (w : List ℕ) → is_number (a ∷ w) ≡ true → begins_with (a ∷ w) comment_start ≡ true → ⊥
unfolding begins_with
no_slash a w n c = (let is : a ≡ 47 = eqb-true a 47 (and_parts (eqb a 47) _ c).0 in
    let h = (word_byte_is a (and_parts (is_word_byte a) (list_all is_word_byte w) (number_bytes (a ∷ w) n)).0).above in omega arith)

one_refused : (x : Symbol) (u : List ℕ) → is_some (next x (Numeral 0)) ≡ true → begins_one x u ≡ false → is_number u ≡ false
unfolding begins_one begins_number
one_refused x u a e =
    let p = or_parts (is_some (next x (Numeral 0)) && begins_number u) (is_some (next x (Named [])) && is_word u) (or_parts _ _ e).0 in
    let q : (is_number u || same hex_mark u) ≡ false = rw a at p.0 in
    (or_parts (is_number u) (same hex_mark u) q).0

pub wide_refused : (k : Stack) (a : ℕ) (w : List ℕ) (b : ℕ) → begins k (a ∷ w) ≡ true → begins k (a ∷ w ++ b ∷ []) ≡ false → is_number (a ∷ w) ≡ true → is_digit_of (a ∷ w) b ≡ true → 2 ^ 32 ≤ value (a ∷ w ++ b ∷ [])
wide_refused [] a w b f g n d = absurd (no_slash a w n f)
wide_refused (x ∷ k) a w b f g n d = elim (or_cases (begins_one x (a ∷ w)) (begins_with (a ∷ w) comment_start) f) [
  | inr c ↦ absurd (no_slash a w n c)
  | inl o ↦ number_wide a w b n d (one_refused x (a ∷ w ++ b ∷ []) (number_expected_one x a w o n) (or_parts (begins_one x (a ∷ w ++ b ∷ [])) (begins_with (a ∷ w ++ b ∷ []) comment_start) g).0)
]
