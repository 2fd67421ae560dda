-- Tokens end before a blank, a bracket or a sign of one byte.
use Rattle.std.proofs.Common.{◌≡◌, ℕ, inl, inr, Bool, true, false, ◌||◌, ◌==◌, List, [], ◌∷◌, ◌++◌, refl, sym, subst, ◌∙◌, arith}
use Rattle.std.specs.Prelude.{Some}
use Rattle.std.specs.List.{list_any}
use Rattle.std.proofs.lemmas.Bool.{and_parts, and_right, or_from, or_cases, or_left, or_right, eqb-true, true≢false, false_from_ne_true}
use Rattle.std.proofs.lemmas.Bool.Decides.{nat_tests}
use Rattle.lb_syntax.specs.Names.{Text}
use Rattle.lb_spelling.specs.Tokens.{Token, is_word_byte, begins_with, spelling, fixed, lexeme, joins, comment_start, IsLongest, Stands}
use Rattle.lb_printing.proofs.Spelled.{is_stop, suits, no_slash, Spelled, calm_over, blanks_gap}

-- ---- where a token ends

-- the byte is one of the text
abbrev has : ℕ → Text → Bool
has b text = list_any (λ a. a == b) text

-- it is one behind the first
abbrev inside : ℕ → Text → Bool
inside b [] = false
inside b (a ∷ text) = has b text

any_more : {A : Type 0} (p q : A → Bool) (xs : List A) → ((x : A) → p x ≡ true → q x ≡ true) → list_any p xs ≡ true → list_any q xs ≡ true
any_more p q [] f e = e
any_more p q (x ∷ xs) f e = elim (or_cases (p x) (list_any p xs) e) [
  | inl here ↦ or_left (q x) (list_any q xs) (f x here)
  | inr there ↦ or_right (q x) (list_any q xs) (any_more p q xs f there)
]

-- no element passes where each that passes would pass another test, which none does
pub none_passes : {A : Type 0} (p q : A → Bool) (xs : List A) → list_any q xs ≡ false → ((x : A) → p x ≡ true → q x ≡ true) → list_any p xs ≡ false
none_passes p q xs h f = false_from_ne_true (list_any p xs) (λ e. true≢false (sym (any_more p q xs f e) ∙ h))

begins_has : (u : Text) (b : ℕ) (text : Text) → begins_with (u ++ b ∷ []) text ≡ true → has b text ≡ true
unfolding begins_with
begins_has [] b [] h = absurd cc
begins_has [] b (a ∷ text) h =
    let e : b ≡ a = eqb-true b a (and_parts (b == a) true h).0 in
    or_left (a == b) (has b text) (grind (arith, nat_tests))
begins_has (c ∷ u) b [] h = absurd cc
begins_has (c ∷ u) b (a ∷ text) h = or_right (a == b) (has b text) (begins_has u b text (and_parts (c == a) (begins_with (u ++ b ∷ []) text) h).1)

begins_inside : (a : ℕ) (u : Text) (b : ℕ) (text : Text) → begins_with (a ∷ u ++ b ∷ []) text ≡ true → inside b text ≡ true
unfolding begins_with
begins_inside a u b [] h = absurd cc
begins_inside a u b (c ∷ text) h = begins_has u b text (and_parts (a == c) (begins_with (u ++ b ∷ []) text) h).1

-- a byte that stands in no spelling behind its first makes nothing longer
none_joins : (a : ℕ) (u : Text) (b : ℕ) → is_word_byte b ≡ false → list_any (λ t. inside b (spelling t)) fixed ≡ false → inside b comment_start ≡ false → joins (a ∷ u) b ≡ false
unfolding joins
none_joins a u b word table comment =
    or_from _ _
    (or_from _ _ (and_right (is_word_byte a) (is_word_byte b) word)
    (none_passes (λ t. begins_with (a ∷ u ++ b ∷ []) (spelling t)) (λ t. inside b (spelling t)) fixed table (λ t. begins_inside a u b (spelling t))))
    (false_from_ne_true (begins_with (a ∷ u ++ b ∷ []) comment_start) (λ e. true≢false (sym (begins_inside a u b comment_start e) ∙ comment)))

is_byte : (P : ℕ → Type 0) (b c : ℕ) → (b == c) ≡ true → P c → P b
is_byte P b c e p = subst P (sym (eqb-true b c e)) p

-- a stop is one of five bytes
pub stop_cases : (P : ℕ → Type 0) → P 32 → P 40 → P 41 → P 44 → P 59 → (b : ℕ) → is_stop b ≡ true → P b
stop_cases P blank opening closing comma semicolon b h = elim (or_cases ((b == 32) || (b == 40) || (b == 41) || (b == 44)) (b == 59) h) [
  | inr e ↦ is_byte P b 59 e semicolon
  | inl h ↦ elim (or_cases ((b == 32) || (b == 40) || (b == 41)) (b == 44) h) [
    | inr e ↦ is_byte P b 44 e comma
    | inl h ↦ elim (or_cases ((b == 32) || (b == 40)) (b == 41) h) [
      | inr e ↦ is_byte P b 41 e closing
      | inl h ↦ elim (or_cases (b == 32) (b == 40) h) [
        | inr e ↦ is_byte P b 40 e opening
        | inl e ↦ is_byte P b 32 e blank
      ]
    ]
  ]
]

stop_joins : (a : ℕ) (u : Text) (b : ℕ) → is_stop b ≡ true → joins (a ∷ u) b ≡ false
unfolding is_word_byte
stop_joins a u = stop_cases (λ b. joins (a ∷ u) b ≡ false) (none_joins a u 32 refl refl refl) (none_joins a u 40 refl refl refl) (none_joins a u 41 refl refl refl) (none_joins a u 44 refl refl refl) (none_joins a u 59 refl refl refl)

pub stop_ends : (a : ℕ) (u rest : Text) → suits false rest ≡ true → IsLongest (a ∷ u) rest
stop_ends a u [] h = tt
stop_ends a u (b ∷ rest) h = stop_joins a u b h

-- ---- tokens

-- a token that ends before a stop
pub word : {t : Token} (a : ℕ) (u : Text) → lexeme (a ∷ u) ≡ Some t → no_slash (a ∷ u) ≡ true → Spelled false (Stands t) (a ∷ u)
word a u e h = record {
  at = λ before rest g s. record { before = before; word = a ∷ u; parts = refl; is_gap = blanks_gap false before g; spelled = e; longest = stop_ends a u rest s };
  calm = λ rest s c. calm_over (a ∷ u) rest h c;
}

-- a token of one byte that nothing makes longer
pub closed : {t : Token} (b : ℕ) → lexeme (b ∷ []) ≡ Some t → ((c : ℕ) → joins (b ∷ []) c ≡ false) → no_slash (b ∷ []) ≡ true → Spelled true (Stands t) (b ∷ [])
closed b e none h = record {
  at = λ before rest g s. record { before = before; word = b ∷ []; parts = refl; is_gap = blanks_gap false before g; spelled = e; longest = ends rest };
  calm = λ rest s c. calm_over (b ∷ []) rest h c;
} where
  ends : (rest : Text) → IsLongest (b ∷ []) rest
  ends [] = tt
  ends (c ∷ rest) = none c
