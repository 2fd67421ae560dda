-- Words and signs: the code's tests are the machine's.
use Rattle.std.proofs.Common.{◌≡◌, ◌≢◌, ℕ, zero, suc, ◌+◌, ◌^◌, ◌<◌, ◌≤◌, Bool, true, false, ◌&&◌, ◌||◌, cond, List, [], ◌∷◌, ◌++◌, length, take, drop, get_or, Some, None, refl, sym, ap, ◌∙◌, add-one, arith, inl, inr, ltb, eqb}
use Rattle.std.specs.Prelude.{is_some}
use Rattle.std.specs.Char.{is_digit}
use Rattle.std.specs.List.{list_all, list_any, find}
use Rattle.std.specs.Str.Parse.{digits_value}
use Rattle.std.proofs.lemmas.Bool.{true≢false, and_parts, and_left, and_right, cases_Bool, eqb-true, ltb-true, ltb-false}
use Rattle.std.proofs.Math.Seq.{drop-cons}
use Rattle.lb_syntax.specs.Names.{is_name}
use Rattle.lb_spelling.specs.declared.symbol.Symbol.{Symbol}
use Rattle.lb_spelling.specs.declared.fault.TextKind.TheVariants.{NameTooLong}
use Rattle.lb_spelling.specs.Tokens.{Token, Named, lexeme, spelling, fixed, same, is_number, is_word, is_hex, is_word_byte, is_word_like, joins, begins_with, comment_start, hex_mark}
use Rattle.lb_spelling.specs.InternalMachine.{next, begins_one, begins_number, kind_in, unexpected}
use Rattle.lb_spelling.proofs.Words.{false_from, same_is, hex_is, number_decimal, no_empty_number, name_parts}
use Rattle.lb_spelling.proofs.Lexing.{name_is}
use Rattle.lb_scan.specs.InternalScanning.{begins_with_digit, IsSpelled}

-- ---- no number begins without a digit

pub no_number : (w : List ℕ) → begins_with_digit 10 w ≡ false → is_number w ≡ false
no_number [] e = no_empty_number
no_number (b ∷ w) e = false_from _ (λ n. elim (cases_Bool (is_hex (b ∷ w))) [
  | inl h ↦ (let p = hex_is (b ∷ w) h in let is : b ≡ 48 = (let q = p.1 in cc) in true≢false (rw is at e))
  | inr h ↦ (let p = and_parts (is_digit b 10 && list_all (λ b. is_digit b 10) w) (ltb (digits_value 10 (b ∷ w)) (2 ^ 32)) (sym (number_decimal (b ∷ w) h) ∙ n) in
      true≢false (sym (and_parts (is_digit b 10) (list_all (λ b. is_digit b 10) w) p.0).0 ∙ e))
])

pub no_number_begun : (w : List ℕ) → begins_with_digit 10 w ≡ false → begins_number w ≡ false
unfolding begins_number
no_number_begun w e = rw (no_number w e) (false_from _ (λ s. let is : hex_mark ≡ w = same_is hex_mark w s in true≢false (rw (← is) at e)))

-- ---- the token of a spelling

pub lexeme_table : (w : List ℕ) (t : Token) → begins_with_digit 10 w ≡ false → Some t ≡ find (λ t. same (spelling t) w) fixed → Some t ≡ lexeme w
unfolding lexeme
lexeme_table w t e f = rw (no_number w e) (rw (← f) refl)

pub lexeme_word : (w : List ℕ) → None ≡ find (λ t. same (spelling t) w) fixed → is_word w ≡ true → Some (Named w) ≡ lexeme w
lexeme_word w f h = sym (name_is w h (sym f))

pub lexeme_none : (w : List ℕ) → begins_with_digit 10 w ≡ false → None ≡ find (λ t. same (spelling t) w) fixed → is_word w ≡ false → None ≡ lexeme w
unfolding lexeme
lexeme_none w e f h =
    let no_name : is_name w ≡ false = false_from _ (λ n. true≢false (sym (name_parts w n).word ∙ h)) in
    rw (no_number w e) (rw (← f) (rw no_name refl))

-- ---- the beginnings of spellings

or_true : (b c : Bool) → true ≡ ((b || true) || c)
or_true true c = refl
or_true false c = refl

none : (b c d : Bool) → ((b && false) || c || d) ≡ (c || d)
none true c d = refl
none false c d = refl

pub begins_is : (x : Symbol) (u : List ℕ) → begins_with_digit 10 u ≡ false
    → begins_one x u ≡ ((is_some (next x (Named [])) && is_word u) || list_any (λ t. is_some (next x t) && begins_with u (spelling t)) fixed)
unfolding begins_one
begins_is x u e = rw (no_number_begun u e) (none (is_some (next x _)) (is_some (next x (Named [])) && is_word u) (list_any (λ t. is_some (next x t) && begins_with u (spelling t)) fixed))

abbrev Begun : Symbol → List ℕ → Bool → Type 0
Begun x u b = b ≡ (begins_one x u || begins_with u comment_start)

pub begun_name : (x : Symbol) (u : List ℕ) → begins_with_digit 10 u ≡ false → (is_some (next x (Named [])) && is_word u) ≡ true → Begun x u true
begun_name x u e h = rw (begins_is x u e) (rw h refl)

pub begun_taken : (x : Symbol) (u : List ℕ) → begins_with_digit 10 u ≡ false → list_any (λ t. is_some (next x t) && begins_with u (spelling t)) fixed ≡ true → Begun x u true
begun_taken x u e h = rw (begins_is x u e) (rw h (or_true (is_some (next x (Named [])) && is_word u) (begins_with u comment_start)))

pub begun_else : (x : Symbol) (u : List ℕ) → begins_with_digit 10 u ≡ false → (is_some (next x (Named [])) && is_word u) ≡ false → list_any (λ t. is_some (next x t) && begins_with u (spelling t)) fixed ≡ false → Begun x u (begins_with u comment_start)
begun_else x u e h g = rw (begins_is x u e) (rw (h, g) refl)

kind_is : (w : List ℕ) (b : ℕ) → begins_with_digit 10 w ≡ false → kind_in w b ≡ cond (is_word w && eqb (length w) 32 && is_word_byte b) NameTooLong (unexpected b)
kind_is w b e = rw (no_number w e) refl

pub kind_length : (w : List ℕ) (b : ℕ) → begins_with_digit 10 w ≡ false → length w ≢ 32 → unexpected b ≡ kind_in w b
kind_length w b e h =
    let differ : eqb (length w) 32 ≡ false = false_from _ (λ g. h (eqb-true (length w) 32 g)) in
    rw (kind_is w b e, and_left (is_word w && eqb (length w) 32) (is_word_byte b) (and_right (is_word w) (eqb (length w) 32) differ)) refl

pub kind_word : (w : List ℕ) (b : ℕ) → begins_with_digit 10 w ≡ false → is_word w ≡ false → unexpected b ≡ kind_in w b
kind_word w b e h = rw (kind_is w b e) (rw h refl)

pub kind_byte : (w : List ℕ) (b : ℕ) → begins_with_digit 10 w ≡ false → is_word_byte b ≡ false → unexpected b ≡ kind_in w b
kind_byte w b e h = rw (kind_is w b e, and_right (is_word w && eqb (length w) 32) (is_word_byte b) h) refl

pub kind_long : (w : List ℕ) (b : ℕ) → begins_with_digit 10 w ≡ false → length w ≡ 32 → is_word w ≡ true → is_word_byte b ≡ true → NameTooLong ≡ kind_in w b
kind_long w b e h g i = rw (kind_is w b e) (rw (g, h, i) refl)

-- ---- one byte more

take_next : (s : List ℕ) (i : ℕ) → i < length s → take (suc i) s ≡ take i s ++ get_or s i 0 ∷ []
take_next [] i h = absurd (omega arith)
take_next (b ∷ s) zero h = refl
take_next (b ∷ s) (suc i) h = ap (λ (u : List ℕ). b ∷ u) (take_next s i (omega arith))

pub take_more : (s : List ℕ) (i : ℕ) → i < length s → take (i + 1) s ≡ take i s ++ get_or s i 0 ∷ []
take_more s i h = rw (add-one i) (take_next s i h)

pub drop_one : (s : List ℕ) (i : ℕ) → i < length s → drop i s ≡ get_or s i 0 ∷ drop (i + 1) s
drop_one s i h = rw (add-one i) (drop-cons s i 0 h)

word_like : (s : List ℕ) (i : ℕ) → 0 < i → i < length s → is_word_like (take i s) ≡ is_word_byte (get_or s 0 0)
word_like [] i h l = absurd (omega arith)
word_like (b ∷ s) zero h l = absurd (omega arith)
word_like (b ∷ s) (suc i) h l = refl

joins_at : (s : List ℕ) (i : ℕ) → 0 < i → i < length s
    → joins (take i s) (get_or s i 0) ≡ ((is_word_byte (get_or s 0 0) && is_word_byte (get_or s i 0)) || list_any (λ t. begins_with (take (i + 1) s) (spelling t)) fixed || begins_with (take (i + 1) s) comment_start)
unfolding joins
joins_at s i h l = rw (take_more s i l, word_like s i h l) refl

pub joins_run : (s : List ℕ) (i : ℕ) → 0 < i → i < length s → (is_word_byte (get_or s 0 0) && is_word_byte (get_or s i 0)) ≡ true → true ≡ joins (take i s) (get_or s i 0)
joins_run s i h l e = rw (joins_at s i h l) (rw e refl)

pub joins_fixed : (s : List ℕ) (i : ℕ) → 0 < i → i < length s → list_any (λ t. begins_with (take (i + 1) s) (spelling t)) fixed ≡ true → true ≡ joins (take i s) (get_or s i 0)
joins_fixed s i h l e = rw (joins_at s i h l) (rw e (or_true (is_word_byte (get_or s 0 0) && is_word_byte (get_or s i 0)) (begins_with (take (i + 1) s) comment_start)))

pub joins_else : (s : List ℕ) (i : ℕ) → 0 < i → i < length s → (is_word_byte (get_or s 0 0) && is_word_byte (get_or s i 0)) ≡ false → list_any (λ t. begins_with (take (i + 1) s) (spelling t)) fixed ≡ false
    → begins_with (take (i + 1) s) comment_start ≡ joins (take i s) (get_or s i 0)
joins_else s i h l e g = rw (joins_at s i h l) (rw (e, g) refl)

-- ---- the longest spelling

pub record JoinedTo (s : List ℕ) (len : ℕ) : Type 0 where
  pub some : 0 < len
  pub within : len ≤ length s
  pub short : len ≤ 33
  pub joined : (i : ℕ) → 0 < i → i < len → joins (take i s) (get_or s i 0) ≡ true

pub joined_one : (s : List ℕ) → 0 < length s → JoinedTo s 1
joined_one s h = record { some = omega arith; within = omega arith; short = omega arith; joined = λ i a b. absurd (omega arith) }

pub joined_more : (s : List ℕ) (len : ℕ) → JoinedTo s len → len < length s → len < 33 → joins (take len s) (get_or s len 0) ≡ true → JoinedTo s (len + 1)
joined_more s len p h h' j = record {
  some = omega arith;
  within = omega arith;
  short = omega arith;
  joined = λ i a b. elim (cases_Bool (ltb i len)) [
    | inl l ↦ p.joined i a (ltb-true i len l)
    | inr l ↦ (let is : i ≡ len = (let g : len ≤ i = ltb-false i len l in omega arith) in rw is j)
  ];
}

pub spelled_here : (s : List ℕ) (len : ℕ) → JoinedTo s len → len < length s → joins (take len s) (get_or s len 0) ≡ false → IsSpelled s len
spelled_here s len p h j = record { some = p.some; within = p.within; short = p.short; joined = p.joined; longest = λ l. rw (drop_one s len h) j }

pub drop_all : (i : ℕ) (w : List ℕ) → length w ≤ i → drop i w ≡ []
drop_all zero [] h = refl
drop_all zero (b ∷ w) h = absurd (omega arith)
drop_all (suc i) [] h = refl
drop_all (suc i) (b ∷ w) h = drop_all i w (omega arith)

pub spelled_whole : (s : List ℕ) (len : ℕ) → JoinedTo s len → (len ≤ 32 → length s ≤ len) → IsSpelled s len
spelled_whole s len p h = record { some = p.some; within = p.within; short = p.short; joined = p.joined; longest = λ l. rw (drop_all len s (h l)) (tt {0}) }
