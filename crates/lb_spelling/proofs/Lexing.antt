-- Spellings, their beginnings, and the bytes that make them longer.
use Rattle.std.proofs.Common.{◌≡◌, ℕ, ◌^◌, ◌<◌, ◌≤◌, Bool, true, false, not, ◌&&◌, ◌||◌, List, [], ◌∷◌, ◌++◌, Option, Some, None, refl, sym, ap, ◌∙◌, arith, inl, inr, leb, eqb}
use Rattle.std.specs.Prelude.{is_some}
use Rattle.std.specs.List.{list_all, list_any, find}
use Rattle.std.specs.Str.{bytes_eq}
use Rattle.std.proofs.lemmas.Bool.{true≢false, and_parts, and_from, or_left, or_right, or_cases, leb-true, cases_Bool}
use Rattle.std.proofs.lemmas.Bool.Decides.{nat_tests}
use Rattle.std.proofs.lemmas.List.Folds.{list_all-append}
use mathlib.Core.Bool.{beq}
use Rattle.lb_syntax.specs.Names.{Text, is_name, is_reserved, reserved_words}
use Rattle.lb_syntax.proofs.DistinctLemmas.{bytes_eq-same}
use Rattle.lb_spelling.specs.declared.symbol.Symbol.{Symbol}
use Rattle.lb_spelling.specs.declared.symbol.Symbol.TheVariants as symbols
use Rattle.lb_spelling.specs.InternalMachine.{next, begins_one, is_open, is_close}
use Rattle.lb_spelling.specs.Tokens.{Token, Numeral, Named, is_word_byte, lexeme, joins, begins_with, spelling, fixed, value, is_numeral, is_hex, is_number, is_word, same, comment_start, name_of, or_else}
use Rattle.lb_spelling.proofs.Words.{chosen, false_from, begins_with-append, same_is, one_more, head_or, word_byte_is, number_front, number_bytes, number_below, word_parts, word_front, name_from, name_word, name_bytes, no_number}

-- ---- tables

-- a test of some element of the table
pub record Found (p : Token → Bool) (xs : List Token) (t : Token) : Type 0 where
  pub passes : p t ≡ true
  pub among : (q : Token → Bool) → q t ≡ true → list_any q xs ≡ true

pub found : (p : Token → Bool) (xs : List Token) (t : Token) → find p xs ≡ Some t → Found p xs t
found p [] t e = absurd cc
found p (x ∷ xs) t e =
    elim (chosen (p x) (Some x) (find p xs) (Some t) e) [
      | inl c ↦ (let first : x ≡ t = (let h = c.1 in cc) in
          record { passes = rw (← first) c.0; among = λ q h. or_left (q x) (list_any q xs) (rw first h) })
      | inr c ↦ (let f = found p xs t c.1 in
          record { passes = f.passes; among = λ q h. or_right (q x) (list_any q xs) (f.among q h) })
    ]

-- what holds of each token of the table
pub table_all : (q p : Token → Bool) (t : Token) → list_any (λ s. not (q s)) fixed ≡ false → Found p fixed t → q t ≡ true
table_all q p t none f = elim (cases_Bool (q t)) [
  | inl holds ↦ holds
  | inr fails ↦ absurd (true≢false (sym (f.among (λ s. not (q s)) (rw fails refl)) ∙ none))
]

-- what some element of a list passes is passed by one
pub some_one : {A : Type 0} (p : A → Bool) (xs : List A) → list_any p xs ≡ true → (x : A) × (p x ≡ true) × ((q : A → Bool) → q x ≡ true → list_any q xs ≡ true)
some_one p [] e = absurd cc
some_one p (x ∷ xs) e = elim (or_cases (p x) (list_any p xs) e) [
  | inl here ↦ (x, here, λ q h. or_left (q x) (list_any q xs) h)
  | inr there ↦ (let r = some_one p xs there in (r.0, r.1, λ q h. or_right (q x) (list_any q xs) (r.2 q h)))
]

-- one that passes p, and q as all do
pub pick : {A : Type 0} (q p : A → Bool) (xs : List A) → list_all q xs ≡ true → list_any p xs ≡ true → (x : A) × (q x ≡ true) × (p x ≡ true)
pick q p [] h e = absurd cc
pick q p (x ∷ xs) h e = let g = and_parts (q x) (list_all q xs) h in elim (or_cases (p x) (list_any p xs) e) [
  | inl here ↦ (x, g.0, here)
  | inr there ↦ pick q p xs g.1 there
]

find_none : {A : Type 0} (p : A → Bool) (xs : List A) → find p xs ≡ None → list_any p xs ≡ false
find_none p [] e = refl
find_none p (x ∷ xs) e = elim (chosen (p x) (Some x) (find p xs) None e) [
  | inl c ↦ absurd (let h = c.1 in cc)
  | inr c ↦ rw (c.0) (find_none p xs c.1)
]

-- ---- tokens

-- the three ways to be a token
pub data Spelled (w : List ℕ) (t : Token) : Type 0 where
  number : is_number w ≡ true → t ≡ Numeral (value w) → Spelled w t
  word : is_name w ≡ true → t ≡ Named w → Spelled w t
  table : w ≡ spelling t → Found (λ t. same (spelling t) w) fixed t → Spelled w t

rest_of : (w : List ℕ) (t : Token) (o : Option Token) → find (λ t. same (spelling t) w) fixed ≡ o → or_else o (name_of w) ≡ Some t → Spelled w t
rest_of w t (Some x) f e = let x-is : x ≡ t = cc in let g = found (λ t. same (spelling t) w) fixed t (f ∙ ap (λ (y : Token). Some y) x-is) in table (sym (same_is _ _ g.passes)) g
rest_of w t None f e = elim (chosen (is_name w) (Some (Named w)) None (Some t) e) [
  | inl c ↦ word c.0 (let h = c.1 in cc)
  | inr c ↦ absurd (let h = c.1 in cc)
]

pub lexeme_is : (w : List ℕ) (t : Token) → lexeme w ≡ Some t → Spelled w t
unfolding lexeme
lexeme_is w t e = elim (chosen (is_number w) (Some (Numeral (value w))) (or_else (find (λ t. same (spelling t) w) fixed) (name_of w)) (Some t) e) [
  | inl c ↦ number c.0 (let h = c.1 in cc)
  | inr c ↦ rest_of w t _ refl c.1
]

pub number_is : (w : List ℕ) → is_number w ≡ true → lexeme w ≡ Some (Numeral (value w))
unfolding lexeme
number_is w e = rw e refl

-- reserved words are in the table
abbrev is_listed : Text → Bool
is_listed w = list_any (λ t. same (spelling t) w) fixed

words_listed : list_all is_listed reserved_words ≡ true
unfolding same begins_with
words_listed = refl

pub not_listed : (w : List ℕ) → find (λ t. same (spelling t) w) fixed ≡ None → is_reserved w ≡ false
unfolding is_reserved
not_listed w f = false_from _ (λ r.
    let p = pick is_listed (λ u. bytes_eq u w) reserved_words words_listed r in
    let is : p.0 ≡ w = bytes_eq-same p.0 w p.2 in
    true≢false (sym (rw is at p.1) ∙ find_none (λ t. same (spelling t) w) fixed f))

pub name_is : (w : List ℕ) → is_word w ≡ true → find (λ t. same (spelling t) w) fixed ≡ None → lexeme w ≡ Some (Named w)
unfolding lexeme
name_is w e f = rw (no_number w (word_parts w e).start) (rw f (rw (name_from w (record { word = e; free = not_listed w f })) refl))

-- ---- the first byte of a spelling

pub record Head (b : ℕ) (t : Token) : Type 0 where
  pub above : 32 < b
  pub opens : (eqb b 40 || eqb b 123) ≡ is_open t
  pub closes : (eqb b 41 || eqb b 125) ≡ is_close t

pub no_bracket : (b c d : ℕ) → 47 < b → b < 123 → c ≤ 47 → 123 ≤ d → (eqb b c || eqb b d) ≡ false
no_bracket b c d h h' low high = grind (arith, nat_tests)

head_word : (b : ℕ) (t : Token) → is_word_byte b ≡ true → is_open t ≡ false → is_close t ≡ false → Head b t
head_word b t e o c = let h = word_byte_is b e in
    record { above = (let l = h.above in omega arith); opens = rw o (no_bracket b 40 123 h.above h.below (omega arith) (omega arith)); closes = rw c (no_bracket b 41 125 h.above h.below (omega arith) (omega arith)) }

abbrev head_fine : Token → Bool
head_fine t = leb 33 (head_or (spelling t)) && (beq (eqb (head_or (spelling t)) 40 || eqb (head_or (spelling t)) 123) (is_open t) && beq (eqb (head_or (spelling t)) 41 || eqb (head_or (spelling t)) 125) (is_close t))

pub beq-is : (x y : Bool) → beq x y ≡ true → x ≡ y
beq-is true true e = refl
beq-is true false e = absurd cc
beq-is false true e = absurd cc
beq-is false false e = refl

head_table : (b : ℕ) (t : Token) → head_or (spelling t) ≡ b → head_fine t ≡ true → Head b t
head_table b t is h =
    let p = and_parts (leb 33 (head_or (spelling t))) (beq (eqb (head_or (spelling t)) 40 || eqb (head_or (spelling t)) 123) (is_open t) && beq (eqb (head_or (spelling t)) 41 || eqb (head_or (spelling t)) 125) (is_close t)) h in
    let q = and_parts (beq (eqb (head_or (spelling t)) 40 || eqb (head_or (spelling t)) 123) (is_open t)) (beq (eqb (head_or (spelling t)) 41 || eqb (head_or (spelling t)) 125) (is_close t)) p.1 in
    let above : 33 ≤ head_or (spelling t) = leb-true _ _ p.0 in
    record {
      above = omega arith;
      opens = ap (λ (x : ℕ). eqb x 40 || eqb x 123) (sym is) ∙ beq-is _ _ q.0;
      closes = ap (λ (x : ℕ). eqb x 41 || eqb x 125) (sym is) ∙ beq-is _ _ q.1;
    }

pub head : (b : ℕ) (v : List ℕ) (t : Token) → lexeme (b ∷ v) ≡ Some t → Head b t
head b v t e = elim (lexeme_is (b ∷ v) t e) [
  | number n is ↦ head_word b t (and_parts (is_word_byte b) (list_all is_word_byte v) (number_bytes _ n)).0 (rw is refl) (rw is refl)
  | word n is ↦ head_word b t (and_parts (is_word_byte b) (list_all is_word_byte v) (name_bytes (b ∷ v) n)).0 (rw is refl) (rw is refl)
  | table is f ↦ head_table b t (ap head_or (sym is)) (table_all head_fine _ t refl f)
]

-- ---- each front of a spelling begins one, and each byte of it joins what is before

-- what x expects does not hang on the number or the name
pub any_number : (x : Symbol) (n : ℕ) → is_some (next x (Numeral n)) ≡ is_some (next x (Numeral 0))
any_number symbols.Functions n = refl
any_number symbols.Names n = refl
any_number symbols.MoreNames n = refl
any_number symbols.Results n = refl
any_number symbols.Block n = refl
any_number symbols.Commands n = refl
any_number symbols.AfterIf n = refl
any_number symbols.AfterName n = refl
any_number symbols.MoreTargets n = refl
any_number symbols.Source n = refl
any_number symbols.AfterSource n = refl
any_number symbols.Callee n = refl
any_number symbols.Arguments n = refl
any_number symbols.MoreArguments n = refl
any_number symbols.Expr n = refl
any_number symbols.Sign n = refl
any_number symbols.Name n = refl
any_number symbols.Number n = refl
any_number symbols.OpenParen n = refl
any_number symbols.CloseParen n = refl
any_number symbols.Comma n = refl
any_number symbols.Semicolon n = refl
any_number symbols.As n = refl

pub any_name : (x : Symbol) (w : List ℕ) → is_some (next x (Named w)) ≡ is_some (next x (Named []))
any_name symbols.Functions w = refl
any_name symbols.Names w = refl
any_name symbols.MoreNames w = refl
any_name symbols.Results w = refl
any_name symbols.Block w = refl
any_name symbols.Commands w = refl
any_name symbols.AfterIf w = refl
any_name symbols.AfterName w = refl
any_name symbols.MoreTargets w = refl
any_name symbols.Source w = refl
any_name symbols.AfterSource w = refl
any_name symbols.Callee w = refl
any_name symbols.Arguments w = refl
any_name symbols.MoreArguments w = refl
any_name symbols.Expr w = refl
any_name symbols.Sign w = refl
any_name symbols.Name w = refl
any_name symbols.Number w = refl
any_name symbols.OpenParen w = refl
any_name symbols.CloseParen w = refl
any_name symbols.Comma w = refl
any_name symbols.Semicolon w = refl
any_name symbols.As w = refl

pub begins_front : (x : Symbol) (a : ℕ) (u v : List ℕ) (t : Token) → lexeme (a ∷ u ++ v) ≡ Some t → is_some (next x t) ≡ true → begins_one x (a ∷ u) ≡ true
unfolding begins_one
begins_front x a u v t e allowed = elim (lexeme_is _ _ e) [
  | number n is ↦ or_left _ _ (or_left _ _ (and_from _ _ (sym (any_number x (value (a ∷ u ++ v))) ∙ (rw is at allowed)) (number_front a u v n)))
  | word n is ↦ or_left _ _ (or_right _ _ (and_from _ _ (sym (any_name x (a ∷ u ++ v)) ∙ (rw is at allowed)) (word_front a u v (name_word (a ∷ u ++ v) n))))
  | table is f ↦ or_right _ _ (f.among (λ s. is_some (next x s) && begins_with (a ∷ u) (spelling s)) (and_from _ _ allowed (rw (← is) (begins_with-append (a ∷ u) v))))
]

run_joins : (a : ℕ) (u : List ℕ) (b : ℕ) (v : List ℕ) → list_all is_word_byte (a ∷ u ++ b ∷ v) ≡ true → joins (a ∷ u) b ≡ true
unfolding joins
run_joins a u b v e =
    let split : (list_all is_word_byte (a ∷ u) && list_all is_word_byte (b ∷ v)) ≡ true = sym (list_all-append is_word_byte (a ∷ u) (b ∷ v)) ∙ e in
    let p = and_parts (list_all is_word_byte (a ∷ u)) (list_all is_word_byte (b ∷ v)) split in
    or_left _ _ (or_left _ _ (and_from (is_word_byte a) (is_word_byte b) (and_parts _ _ p.0).0 (and_parts _ _ p.1).0))

pub joins_front : (a : ℕ) (u : List ℕ) (b : ℕ) (v : List ℕ) (t : Token) → lexeme (a ∷ u ++ b ∷ v) ≡ Some t → joins (a ∷ u) b ≡ true
unfolding joins
joins_front a u b v t e = elim (lexeme_is _ _ e) [
  | number n is ↦ run_joins a u b v (number_bytes _ n)
  | word n is ↦ run_joins a u b v (name_bytes (a ∷ u ++ b ∷ v) n)
  | table is f ↦ or_left _ _ (or_right _ _ (f.among (λ s. begins_with (a ∷ u ++ b ∷ []) (spelling s)) (rw (← is) (rw (one_more (a ∷ u) b v) (begins_with-append (a ∷ u ++ b ∷ []) v)))))
]

abbrev no_comment : Token → Bool
no_comment t = not (begins_with comment_start (spelling t))

pub no_comment_front : (a : ℕ) (u : List ℕ) (b : ℕ) (v : List ℕ) (t : Token) → lexeme (a ∷ u ++ b ∷ v) ≡ Some t → same (a ∷ u ++ b ∷ []) comment_start ≡ true → ⊥
unfolding begins_with
no_comment_front a u b v t e s =
    let front : a ∷ u ++ b ∷ [] ≡ comment_start = same_is _ _ s in
    let a-is : a ≡ 47 = ap head_or front in
    let whole : a ∷ u ++ b ∷ v ≡ comment_start ++ v = one_more (a ∷ u) b v ∙ ap (λ (w : List ℕ). w ++ v) front in
    elim (lexeme_is _ _ e) [
      | number n is ↦ (let h = (word_byte_is a (and_parts _ _ (number_bytes _ n)).0).above in absurd (omega arith))
      | word n is ↦ (let h = (word_byte_is a (and_parts (is_word_byte a) (list_all is_word_byte (u ++ b ∷ v)) (name_bytes (a ∷ u ++ b ∷ v) n)).0).above in absurd (omega arith))
      | table is f ↦ (let h : no_comment t ≡ true = table_all no_comment _ t refl f in
          let g : begins_with comment_start (spelling t) ≡ true = ap (λ (w : List ℕ). begins_with comment_start w) (sym is ∙ whole) ∙ begins_with-append comment_start v in
          absurd (true≢false (sym h ∙ ap not g)))
    ]

pub empty_lexeme : (t : Token) → lexeme [] ≡ Some t → ⊥
unfolding lexeme same begins_with is_number is_numeral is_hex is_reserved
empty_lexeme t e = let none : None ≡ Some t = e in cc

-- ---- what a token says

table_no_number : Token → Bool
table_no_number (Numeral n) = false
table_no_number (Named x) = false
table_no_number _ = true

pub lexeme_name : (w x : List ℕ) → lexeme w ≡ Some (Named x) → (w ≡ x) × (is_name x ≡ true)
unfolding table_no_number
lexeme_name w x e = elim (lexeme_is w (Named x) e) [
  | number n is ↦ absurd (let q : Named x ≡ Numeral (value w) = is in cc)
  | word n is ↦ (let q : x ≡ w = (let r : Named x ≡ Named w = is in cc) in (sym q, rw q n))
  | table is f ↦ absurd (let q : false ≡ true = table_all table_no_number _ (Named x) refl f in cc)
]

pub lexeme_number : (w : List ℕ) (n : ℕ) → lexeme w ≡ Some (Numeral n) → (is_number w ≡ true) × (n ≡ value w)
unfolding table_no_number
lexeme_number w n e = elim (lexeme_is w (Numeral n) e) [
  | number h is ↦ (h, (let q : Numeral n ≡ Numeral (value w) = is in cc))
  | word h is ↦ absurd (let q : Numeral n ≡ Named w = is in cc)
  | table is f ↦ absurd (let q : false ≡ true = table_all table_no_number _ (Numeral n) refl f in cc)
]

pub lexeme_below : (w : List ℕ) (n : ℕ) → lexeme w ≡ Some (Numeral n) → n < 2 ^ 32
lexeme_below w n e = let p = lexeme_number w n e in let h = number_below w p.0 in rw (p.1) h
