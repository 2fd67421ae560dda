-- Bytes, numbers and words, and their beginnings.
use Rattle.std.proofs.Common.{◌≡◌, ℕ, ◌+◌, ◌*◌, ◌^◌, ◌<◌, ◌≤◌, Bool, true, false, not, ◌&&◌, ◌||◌, cond, List, [], ◌∷◌, ◌++◌, length, drop, refl, sym, ap, subst, ◌∙◌, append_assoc, append-nil, arith, inl, inr, ◌⊎◌, ltb, leb, eqb}
use Rattle.std.specs.List.{list_all}
use Rattle.std.specs.Char.{is_digit, digit_value}
use Rattle.std.specs.Str.Parse.{digits_value, digits_value_after}
use Rattle.std.proofs.lemmas.Bool.{true≢false, false≢true, and_parts, and_from, or_left, or_right, or_cases, ltb-true, lt-ltb, leb-true, le-leb, eqb-true, cases_Bool, not-true}
use Rattle.std.proofs.lemmas.Bool.Decides.{nat_tests}
use Rattle.std.proofs.lemmas.List.{length-append}
use Rattle.std.proofs.lemmas.List.Folds.{list_all-append}
use Rattle.lb_syntax.specs.Names.{is_name, is_name_byte, is_name_start, starts_name, is_reserved}
use Rattle.lb_spelling.specs.Tokens.{is_blank, is_word_byte, begins_with, same, hex_mark, is_hex, radix, digits, is_digit_of, value, is_empty, is_numeral, is_number, is_word}
use Rattle.lb_spelling.specs.InternalMachine.{begins_number}

-- ---- choices and beginnings

-- which way a choice went
pub chosen : {A : Type 0} (b : Bool) (x y z : A) → cond b x y ≡ z → ((b ≡ true) × (x ≡ z)) ⊎ ((b ≡ false) × (y ≡ z))
chosen true x y z e = inl (refl, e)
chosen false x y z e = inr (refl, e)

pub false_from : (b : Bool) → (b ≡ true → ⊥) → b ≡ false
false_from true h = absurd (h refl)
false_from false h = refl

pub begins_with-append : (u v : List ℕ) → begins_with u (u ++ v) ≡ true
unfolding begins_with
begins_with-append [] v = refl
begins_with-append (a ∷ u) v = and_from (eqb a a) (begins_with u (u ++ v)) (grind (arith, nat_tests)) (begins_with-append u v)

pub begins_with_is : (u w : List ℕ) → begins_with u w ≡ true → (v : List ℕ) × (w ≡ u ++ v)
unfolding begins_with
begins_with_is [] w e = (w, refl)
begins_with_is (a ∷ u) [] e = absurd cc
begins_with_is (a ∷ u) (b ∷ w) e =
    let p = and_parts (eqb a b) (begins_with u w) e in
    let q = begins_with_is u w p.1 in
    let same_head : a ≡ b = eqb-true a b p.0 in
    let tails : w ≡ u ++ q.0 = q.1 in
    (q.0, cc)

pub begins_itself : (u : List ℕ) → begins_with u u ≡ true
begins_itself u = subst (λ (v : List ℕ). begins_with u v ≡ true) (append-nil u) (begins_with-append u [])

pub same_is : (u w : List ℕ) → same u w ≡ true → u ≡ w
unfolding same begins_with
same_is [] [] e = refl
same_is [] (b ∷ w) e = absurd cc
same_is (a ∷ u) [] e = absurd cc
same_is (a ∷ u) (b ∷ w) e =
    let p = and_parts (eqb a b && begins_with u w) (eqb b a && begins_with w u) e in
    let q = and_parts (eqb a b) (begins_with u w) p.0 in
    let r = and_parts (eqb b a) (begins_with w u) p.1 in
    let heads : a ≡ b = eqb-true a b q.0 in
    let tails : u ≡ w = same_is u w (and_from _ _ q.1 r.1) in cc

pub same_itself : (u : List ℕ) → same u u ≡ true
unfolding same
same_itself u = and_from _ _ (begins_itself u) (begins_itself u)

pub one_more : (w : List ℕ) (b : ℕ) (v : List ℕ) → w ++ b ∷ v ≡ (w ++ b ∷ []) ++ v
one_more w b v = sym (append_assoc w (b ∷ []) v)

abbrev pub head_or : List ℕ → ℕ
head_or [] = 0
head_or (b ∷ s) = b

abbrev pub tail : List ℕ → List ℕ
tail [] = []
tail (b ∷ s) = s

-- ---- bytes

pub record WordByte (b : ℕ) : Type 0 where
  pub above : 47 < b
  pub below : b < 123

pub word_byte_is : (b : ℕ) → is_word_byte b ≡ true → WordByte b
unfolding is_word_byte
word_byte_is b e = elim (or_cases ((leb 48 b && leb b 57 || leb 65 b && leb b 90) || leb 97 b && leb b 122) (eqb b 95) e) [
  | inr u ↦ (let h : b ≡ 95 = eqb-true b 95 u in record { above = omega arith; below = omega arith })
  | inl r ↦ elim (or_cases (leb 48 b && leb b 57 || leb 65 b && leb b 90) (leb 97 b && leb b 122) r) [
    | inr l ↦ from 97 122 l (omega arith) (omega arith)
    | inl s ↦ elim (or_cases (leb 48 b && leb b 57) (leb 65 b && leb b 90) s) [
      | inr l ↦ from 65 90 l (omega arith) (omega arith)
      | inl l ↦ from 48 57 l (omega arith) (omega arith)
    ]
  ]
] where
  from : (lo hi : ℕ) → (leb lo b && leb b hi) ≡ true → 47 < lo → hi < 123 → WordByte b
  from lo hi l h h' = let p = and_parts (leb lo b) (leb b hi) l in
      let low : lo ≤ b = leb-true lo b p.0 in let high : b ≤ hi = leb-true b hi p.1 in record { above = omega arith; below = omega arith }

pub not_blank_above : (b : ℕ) → 32 < b → is_blank b ≡ false
unfolding is_blank
not_blank_above b h = grind (arith, nat_tests)

pub digit_word : (b r : ℕ) → r ≤ 36 → is_digit b r ≡ true → is_word_byte b ≡ true
unfolding is_word_byte
digit_word b r h e = go (ltb-true (digit_value b) r e) where
  in_range : (lo hi : ℕ) → lo ≤ b → b ≤ hi → (leb lo b && leb b hi) ≡ true
  in_range lo hi l h = and_from _ _ (le-leb lo b l) (le-leb b hi h)

  ranges : (c : Bool) → (c ≡ true) → (c || eqb b 95) ≡ true
  ranges c e = or_left c (eqb b 95) e

  go : digit_value b < r → (((leb 48 b && leb b 57 || leb 65 b && leb b 90) || leb 97 b && leb b 122) || eqb b 95) ≡ true
  go d = grind (arith, nat_tests)

-- ---- numbers

-- the digits of a number below 2^32
abbrev pub is_based : ℕ → List ℕ → Bool
is_based r ds = not (is_empty ds) && list_all (λ b. is_digit b r) ds && ltb (digits_value r ds) (2 ^ 32)

pub number_hex : (ds : List ℕ) → is_number (48 ∷ 120 ∷ ds) ≡ is_based 16 ds
unfolding is_number is_numeral is_digit_of is_hex value begins_with
number_hex ds = refl

pub number_based : (w : List ℕ) → is_number w ≡ is_based (radix w) (digits w)
unfolding is_number is_numeral is_digit_of value
number_based w = refl

pub number_decimal : (w : List ℕ) → is_hex w ≡ false → is_number w ≡ is_based 10 w
number_decimal w h = number_based w ∙ (ap (λ (b : Bool). is_based (cond b 16 10) (cond b (drop 2 w) w)) h)

pub hex_is : (w : List ℕ) → is_hex w ≡ true → (ds : List ℕ) × (w ≡ 48 ∷ 120 ∷ ds)
unfolding is_hex
hex_is w e = begins_with_is hex_mark w e

pub hex_more : (u v : List ℕ) → is_hex u ≡ true → is_hex (u ++ v) ≡ true
unfolding is_hex begins_with
hex_more u v e = let p = hex_is u e in rw (p.1) refl

pub value_grows : (r : ℕ) (n : ℕ) (v : List ℕ) → 0 < r → n ≤ digits_value_after r n v
value_grows r n [] h = omega arith
value_grows r n (d ∷ v) h = let g = value_grows r (n * r + digit_value d) v h in let m : n ≤ n * r = times n r h in omega arith where
  times : (n r : ℕ) → 0 < r → n ≤ n * r
  times n r h = grind arith

pub value-append : (r n : ℕ) (u v : List ℕ) → digits_value_after r n (u ++ v) ≡ digits_value_after r (digits_value_after r n u) v
value-append r n [] v = refl
value-append r n (d ∷ u) v = value-append r (n * r + digit_value d) u v

pub based_front : (r a : ℕ) (u v : List ℕ) → 0 < r → is_based r (a ∷ u ++ v) ≡ true → is_based r (a ∷ u) ≡ true
based_front r a u v h e =
    let p = and_parts (list_all (λ b. is_digit b r) (a ∷ u ++ v)) (ltb (digits_value r (a ∷ u ++ v)) (2 ^ 32)) e in
    let all : (list_all (λ b. is_digit b r) (a ∷ u) && list_all (λ b. is_digit b r) v) ≡ true = sym (list_all-append (λ b. is_digit b r) (a ∷ u) v) ∙ p.0 in
    let d = and_parts (list_all (λ b. is_digit b r) (a ∷ u)) (list_all (λ b. is_digit b r) v) all in
    let small : digits_value r (a ∷ u ++ v) < 2 ^ 32 = ltb-true _ _ p.1 in
    let less : digits_value r (a ∷ u) ≤ digits_value r (a ∷ u ++ v) = subst (λ (n : ℕ). digits_value r (a ∷ u) ≤ n) (sym (value-append r 0 (a ∷ u) v)) (value_grows r (digits_value r (a ∷ u)) v h) in
    and_from (list_all (λ b. is_digit b r) (a ∷ u)) (ltb (digits_value r (a ∷ u)) (2 ^ 32)) d.0 (lt-ltb _ _ (omega arith))

number_inner : (u v : List ℕ) → is_number (48 ∷ 120 ∷ u ++ v) ≡ true → begins_number (48 ∷ 120 ∷ u) ≡ true
unfolding begins_number same begins_with
number_inner [] v e = or_right _ _ refl
number_inner (c ∷ u) v e = or_left _ _ (number_hex (c ∷ u) ∙ based_front 16 c u v (omega arith) (sym (number_hex (c ∷ u ++ v)) ∙ e))

number_zero : is_number (48 ∷ []) ≡ true
unfolding is_number is_numeral is_digit_of is_hex value begins_with
number_zero = refl

number_marked : (a : ℕ) (u v ds : List ℕ) → a ∷ u ++ v ≡ 48 ∷ 120 ∷ ds → is_number (a ∷ u ++ v) ≡ true → begins_number (a ∷ u) ≡ true
unfolding begins_number
number_marked a [] v ds p e = let h : a ≡ 48 = cc in rw h (or_left _ _ number_zero)
number_marked a (c ∷ u) v ds p e = let h : a ≡ 48 = cc in let g : c ≡ 120 = (let t : c ∷ u ++ v ≡ 120 ∷ ds = cc in cc) in rw (h, g) (number_inner u v (rw (h, g) at e))

-- each front of a number is one, or its mark
pub number_front : (a : ℕ) (u v : List ℕ) → is_number (a ∷ u ++ v) ≡ true → begins_number (a ∷ u) ≡ true
unfolding begins_number
number_front a u v e = elim (cases_Bool (is_hex (a ∷ u ++ v))) [
  | inr h ↦ (let g : is_hex (a ∷ u) ≡ false = false_from _ (λ g. true≢false (sym (hex_more (a ∷ u) v g) ∙ h)) in
      or_left _ _ (number_decimal (a ∷ u) g ∙ based_front 10 a u v (omega arith) (sym (number_decimal (a ∷ u ++ v) h) ∙ e)))
  | inl h ↦ (let p = hex_is (a ∷ u ++ v) h in number_marked a u v p.0 p.1 e)
]

pub based_bytes : (r : ℕ) (w : List ℕ) → r ≤ 36 → list_all (λ b. is_digit b r) w ≡ true → list_all is_word_byte w ≡ true
based_bytes r [] h e = refl
based_bytes r (d ∷ w) h e = let p = and_parts (is_digit d r) (list_all (λ b. is_digit b r) w) e in and_from _ _ (digit_word d r h p.0) (based_bytes r w h p.1)

pub based_all : (r : ℕ) (w : List ℕ) → is_based r w ≡ true → list_all (λ b. is_digit b r) w ≡ true
based_all r w e = (and_parts (not (is_empty w)) (list_all (λ b. is_digit b r) w) (and_parts (not (is_empty w) && list_all (λ b. is_digit b r) w) _ e).0).1

marked_bytes : (ds : List ℕ) → is_number (48 ∷ 120 ∷ ds) ≡ true → list_all is_word_byte (48 ∷ 120 ∷ ds) ≡ true
unfolding is_word_byte
marked_bytes ds e = based_bytes 16 ds (omega arith) (based_all 16 ds (sym (number_hex ds) ∙ e))

pub number_bytes : (w : List ℕ) → is_number w ≡ true → list_all is_word_byte w ≡ true
number_bytes w e = elim (cases_Bool (is_hex w)) [
  | inr h ↦ based_bytes 10 w (omega arith) (based_all 10 w (sym (number_decimal w h) ∙ e))
  | inl h ↦ (let p = hex_is w h in rw (p.1) (marked_bytes p.0 (rw (p.1) at e)))
]

pub number_below : (w : List ℕ) → is_number w ≡ true → value w < 2 ^ 32
unfolding is_number
number_below w e = ltb-true _ _ (and_parts (is_numeral w) (ltb (value w) (2 ^ 32)) e).1

pub no_empty_number : is_number [] ≡ false
unfolding is_number is_numeral is_hex begins_with
no_empty_number = refl

-- ---- words

pub record Word (w : List ℕ) : Type 0 where
  pub short : length w ≤ 32
  pub start : starts_name w ≡ true
  pub bytes : list_all is_word_byte w ≡ true

pub word_parts : (w : List ℕ) → is_word w ≡ true → Word w
unfolding is_word
word_parts w e =
    let p = and_parts (leb (length w) 32 && starts_name w) (list_all is_word_byte w) e in
    let q = and_parts (leb (length w) 32) (starts_name w) p.0 in
    record { short = leb-true _ _ q.0; start = q.1; bytes = p.1 }

pub word_from : (w : List ℕ) → Word w → is_word w ≡ true
unfolding is_word
word_from w p = and_from (leb (length w) 32 && starts_name w) (list_all is_word_byte w) (and_from (leb (length w) 32) (starts_name w) (le-leb _ _ p.short) p.start) p.bytes

pub word_front : (a : ℕ) (u v : List ℕ) → is_word (a ∷ u ++ v) ≡ true → is_word (a ∷ u) ≡ true
word_front a u v e =
    let p = word_parts _ e in
    let bytes : (list_all is_word_byte (a ∷ u) && list_all is_word_byte v) ≡ true = sym (list_all-append is_word_byte (a ∷ u) v) ∙ p.bytes in
    let short : length (a ∷ u ++ v) ≤ 32 = p.short in
    word_from (a ∷ u) (record { short = omega (arith, length-append u v); start = p.start; bytes = (and_parts _ _ bytes).0 })

pub record Name (w : List ℕ) : Type 0 where
  pub word : is_word w ≡ true
  pub free : is_reserved w ≡ false

pub name_parts : (w : List ℕ) → is_name w ≡ true → Name w
unfolding is_word is_word_byte
name_parts w e =
    let p = and_parts (leb (length w) 32 && not (is_reserved w) && starts_name w) (list_all is_name_byte w) e in
    let q = and_parts (leb (length w) 32 && not (is_reserved w)) (starts_name w) p.0 in
    let r = and_parts (leb (length w) 32) (not (is_reserved w)) q.0 in
    record { word = and_from (leb (length w) 32 && starts_name w) (list_all is_name_byte w) (and_from (leb (length w) 32) (starts_name w) r.0 q.1) p.1; free = not-true _ r.1 }

pub name_from : (w : List ℕ) → Name w → is_name w ≡ true
unfolding is_word is_word_byte
name_from w n =
    let p = and_parts (leb (length w) 32 && starts_name w) (list_all is_name_byte w) n.word in
    let q = and_parts (leb (length w) 32) (starts_name w) p.0 in
    and_from (leb (length w) 32 && not (is_reserved w) && starts_name w) (list_all is_name_byte w)
    (and_from (leb (length w) 32 && not (is_reserved w)) (starts_name w) (and_from (leb (length w) 32) (not (is_reserved w)) q.0 (ap not n.free)) q.1) p.1

pub name_word : (w : List ℕ) → is_name w ≡ true → is_word w ≡ true
name_word w e = (name_parts w e).word

pub name_bytes : (w : List ℕ) → is_name w ≡ true → list_all is_word_byte w ≡ true
name_bytes w e = (word_parts w (name_word w e)).bytes

-- a word begins with no digit
start_no_digit : (b r : ℕ) → r ≤ 10 → is_name_start b ≡ true → is_digit b r ≡ false
start_no_digit b r h e = grind (arith, nat_tests)

pub no_number : (w : List ℕ) → starts_name w ≡ true → is_number w ≡ false
no_number [] e = absurd (false≢true e)
no_number (b ∷ w) e = false_from _ (λ n. elim (cases_Bool (is_hex (b ∷ w))) [
  | inl h ↦ (let p = hex_is (b ∷ w) h in let is : b ≡ 48 = (let q = p.1 in cc) in absurd (let g : starts_name (48 ∷ w) ≡ true = rw is at e in false≢true g))
  | inr h ↦ (let p = and_parts (is_digit b 10) (list_all (λ b. is_digit b 10) w) (based_all 10 (b ∷ w) (sym (number_decimal (b ∷ w) h) ∙ n)) in true≢false (sym p.0 ∙ start_no_digit b 10 (omega arith) e))
])
