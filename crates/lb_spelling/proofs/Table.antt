-- The kind at which the machine fails is the first of the table that fits.
use Rattle.std.proofs.Common.{◌≡◌, ℕ, ◌<◌, Bool, true, false, ◌&&◌, cond, List, [], ◌∷◌, ◌++◌, length, take, drop, refl, sym, subst, ◌∙◌, arith, inl, inr, eqb}
use Rattle.std.specs.List.{list_all}
use Rattle.std.proofs.lemmas.Bool.{true≢false, and_parts, and_from, eq-eqb, eqb-true, cases_Bool}
use Rattle.std.proofs.lemmas.List.Folds.{list_all-append}
use Rattle.lb_spelling.specs.declared.fault.TextKind.{TextKind}
use Rattle.lb_spelling.specs.declared.fault.TextKind.TheVariants.{TooDeep, NumberTooWide, NameTooLong, Unexpected}
use Rattle.lb_spelling.specs.Tokens.{is_word_byte, is_digit_of, is_number, is_word}
use Rattle.lb_spelling.specs.Places.{is_plain, last_run, IsShallow, Viable, IsTooWide, IsTooLong, OfByte, Suits, IsFirst, IsKind}
use Rattle.lb_spelling.proofs.Words.{word_parts, word_from}
use Rattle.lb_spelling.proofs.Faulty.{kind_at, Wide}

-- a run is of letters, digits and underscores
run_bytes : (s run : List ℕ) → list_all is_word_byte run ≡ true → list_all is_word_byte (last_run run s) ≡ true
run_bytes [] run e = e
run_bytes (b ∷ s) run e = elim (cases_Bool (is_word_byte b)) [
  | inl h ↦ rw h (run_bytes s (run ++ b ∷ []) (list_all-append is_word_byte run (b ∷ []) ∙ and_from _ _ e (and_from (is_word_byte b) true h refl)))
  | inr h ↦ rw h (run_bytes s [] refl)
]

of_byte : (u rest : List ℕ) (b : ℕ) (P : ℕ → Type 0) → u ≡ b ∷ rest → P b → OfByte u P
of_byte u rest b P e p = subst (λ (u : List ℕ). OfByte u P) (sym e) p

its_byte : (u rest : List ℕ) (b : ℕ) (P : ℕ → Type 0) → u ≡ b ∷ rest → OfByte u P → P b
its_byte u rest b P e p = subst (λ (u : List ℕ). OfByte u P) e p

too_long : (run : List ℕ) (b : ℕ) → (is_word run && eqb (length run) 32 && is_word_byte b) ≡ true → IsTooLong run b
too_long run b e =
    let p = and_parts (is_word run && eqb (length run) 32) (is_word_byte b) e in
    let q = and_parts (is_word run) (eqb (length run) 32) p.0 in
    (p.1, eqb-true (length run) 32 q.1, (word_parts run q.0).start)

not_too_long : (run : List ℕ) (b : ℕ) → list_all is_word_byte run ≡ true → (is_word run && eqb (length run) 32 && is_word_byte b) ≡ false → IsTooLong run b → ⊥
not_too_long run b bytes e (w, l, s) =
    let is : length run ≡ 32 = l in
    true≢false (sym (and_from (is_word run && eqb (length run) 32) (is_word_byte b) (and_from (is_word run) (eqb (length run) 32) (word_from run (record { short = omega arith; start = s; bytes = bytes })) (eq-eqb (length run) 32 is)) w) ∙ e)

-- what is known at a byte that isn't taken
pub record At (s : List ℕ) (at : ℕ) (b : ℕ) (rest : List ℕ) (deep : Bool) : Type 0 where
  pub parts : drop at s ≡ b ∷ rest
  pub inside : at < length s
  pub deep_from : (IsShallow (take at s ++ b ∷ []) → ⊥) → Viable (take at s ++ b ∷ []) → deep ≡ true
  pub over : deep ≡ true → IsShallow (take at s ++ b ∷ []) → ⊥
  pub viable : deep ≡ true → Viable (take at s ++ b ∷ [])
  pub wide : deep ≡ false → Wide (last_run [] (take at s)) b

module _ (s : List ℕ) (at b : ℕ) (rest : List ℕ) (deep : Bool) (kind : TextKind) (h : At s at b rest deep) where
  no_end : at ≡ length s → ⊥
  no_end e = let g = h.inside in omega arith

  long_kind : list_all is_word_byte (last_run [] (take at s)) ≡ true → kind ≡ cond (is_word (last_run [] (take at s)) && eqb (length (last_run [] (take at s))) 32 && is_word_byte b) NameTooLong Unexpected → IsFirst (Suits s at) (NameTooLong ∷ Unexpected ∷ []) kind
  long_kind bytes e = elim (cases_Bool (is_word (last_run [] (take at s)) && eqb (length (last_run [] (take at s))) 32 && is_word_byte b)) [
    | inl g ↦ inl (rw g at e, of_byte (drop at s) rest b (λ b. IsTooLong (last_run [] (take at s)) b) h.parts (too_long (last_run [] (take at s)) b g))
    | inr g ↦ inr ((λ p. not_too_long (last_run [] (take at s)) b bytes g (its_byte (drop at s) rest b (λ b. IsTooLong (last_run [] (take at s)) b) h.parts p)), inl (rw g at e, tt))
  ]

  wide_kind : deep ≡ false → kind ≡ cond (is_number (last_run [] (take at s)) && is_digit_of (last_run [] (take at s)) b) NumberTooWide (cond (is_word (last_run [] (take at s)) && eqb (length (last_run [] (take at s))) 32 && is_word_byte b) NameTooLong Unexpected) → IsFirst (Suits s at) (NumberTooWide ∷ NameTooLong ∷ Unexpected ∷ []) kind
  wide_kind d e = elim (cases_Bool (is_number (last_run [] (take at s)) && is_digit_of (last_run [] (take at s)) b)) [
    | inl g ↦ (let p = and_parts (is_number (last_run [] (take at s))) (is_digit_of (last_run [] (take at s)) b) g in
        inl (rw g at e, of_byte (drop at s) rest b (λ b. IsTooWide (last_run [] (take at s)) b) h.parts (p.0, p.1, h.wide d p.0 p.1)))
    | inr g ↦ inr (
      (λ p. let q = its_byte (drop at s) rest b (λ b. IsTooWide (last_run [] (take at s)) b) h.parts p in true≢false (sym (and_from _ _ q.0 q.1) ∙ g)),
      long_kind (run_bytes (take at s) [] refl) (rw g at e),
    )
  ]

  deep_kind : kind ≡ cond deep TooDeep (cond (is_number (last_run [] (take at s)) && is_digit_of (last_run [] (take at s)) b) NumberTooWide (cond (is_word (last_run [] (take at s)) && eqb (length (last_run [] (take at s))) 32 && is_word_byte b) NameTooLong Unexpected)) → IsFirst (Suits s at) (TooDeep ∷ NumberTooWide ∷ NameTooLong ∷ Unexpected ∷ []) kind
  deep_kind e = elim (cases_Bool deep) [
    | inl d ↦ inl (rw d at e, of_byte (drop at s) rest b (λ b. (IsShallow (take at s ++ b ∷ []) → ⊥) × Viable (take at s ++ b ∷ [])) h.parts (h.over d, h.viable d))
    | inr d ↦ inr (
      (λ p. let q = its_byte (drop at s) rest b (λ b. (IsShallow (take at s ++ b ∷ []) → ⊥) × Viable (take at s ++ b ∷ [])) h.parts p in true≢false (sym (h.deep_from q.0 q.1) ∙ d)),
      wide_kind d (rw d at e),
    )
  ]

  pub first_kind : kind ≡ kind_at (last_run [] (take at s)) b deep → IsKind s at kind
  first_kind e = inr (
    no_end,
    elim (cases_Bool (is_plain b)) [
      | inr n ↦ inl (rw n at e, of_byte (drop at s) rest b (λ b. is_plain b ≡ false) h.parts n)
      | inl n ↦ inr ((λ p. true≢false (sym n ∙ its_byte (drop at s) rest b (λ b. is_plain b ≡ false) h.parts p)), deep_kind (rw n at e))
    ],
  )
