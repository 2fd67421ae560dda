-- Reading one field: what is there when it is read, and which fault there is when it isn't.
use Rattle.std.proofs.Common.{◌≡◌, ℕ, ◌+◌, ◌-◌, ◌*◌, ◌≤◌, true, false, cond, nat_lt, List, [], ◌∷◌, ◌++◌, length, take, drop, Option, Some, Result, Ok, Err, refl, sym, ap, subst, ◌∙◌, inl, inr, append_assoc, length-append, length-drop, arith, ltb-false, ltb-true}
use Rattle.lb_word.specs.Bytes.{word_of_bytes}
use Rattle.lb_image.specs.declared.error.ImageFault.{ImageFault}
use Rattle.lb_image.specs.declared.error.ImageKind.TheVariants.{Truncated}
use Rattle.lb_image.specs.declared.field.Field.{Field}
use Rattle.lb_image.specs.Fields.{is_in, fault, whole_words, first_fault}
use Rattle.lb_image.specs.InternalReading.{field_at}
use Rattle.lb_image.proofs.WordLemmas.{whole_words_split, whole_words_short}
use Rattle.lb_image.proofs.ResultLemmas.{ok_is, err_is, not_both, chosen}

-- the first fault of what is left, beside these fields, where the whole input has `len` bytes
abbrev pub fault_from : ℕ → List Field → List ℕ → Option ImageFault
fault_from len fs left = first_fault len (len - length left) fs (whole_words left)

-- the words ws were read from the front of the bytes, and none of them has a fault beside the fields fs
pub record IsRead (len : ℕ) (fs : List Field) (bytes ws rest : List ℕ) : Type 0 where
  pub taken : whole_words bytes ≡ ws ++ whole_words rest
  pub left : length bytes ≡ 4 * length ws + length rest
  pub faultless : (more : List Field) → fault_from len (fs ++ more) bytes ≡ fault_from len more rest

-- the fault is the first beside the fields fs
abbrev pub IsFirstFault : ℕ → List Field → List ℕ → ImageFault → Type 0
IsFirstFault len fs bytes e = (more : List Field) → fault_from len (fs ++ more) bytes ≡ Some e

pub read_then : (len : ℕ) (fs gs : List Field) (a ws b vs c : List ℕ) → IsRead len fs a ws b → IsRead len gs b vs c → IsRead len (fs ++ gs) a (ws ++ vs) c
read_then len fs gs a ws b vs c p q = record {
  taken = p.taken ∙ ap (λ (t : List ℕ). ws ++ t) q.taken ∙ sym (append_assoc ws vs (whole_words c));
  left = omega (arith, length-append ws vs, p.left, q.left);
  faultless = λ more. ap (λ (t : List Field). fault_from len t a) (append_assoc fs gs more) ∙ p.faultless (gs ++ more) ∙ q.faultless more;
}

pub fault_behind : (len : ℕ) (fs gs : List Field) (a ws b : List ℕ) (e : ImageFault) → IsRead len fs a ws b → IsFirstFault len gs b e → IsFirstFault len (fs ++ gs) a e
fault_behind len fs gs a ws b e p q more =
    ap (λ (t : List Field). fault_from len t a) (append_assoc fs gs more) ∙ p.faultless (gs ++ more) ∙ q more

pub fault_before : (len : ℕ) (fs gs : List Field) (a : List ℕ) (e : ImageFault) → IsFirstFault len fs a e → IsFirstFault len (fs ++ gs) a e
fault_before len fs gs a e p more = ap (λ (t : List Field). fault_from len t a) (append_assoc fs gs more) ∙ p (gs ++ more)

pub nothing_read : (len : ℕ) (bytes : List ℕ) → IsRead len [] bytes [] bytes
nothing_read len bytes = record { taken = refl; left = omega arith; faultless = λ more. refl }

-- ---- a field

good_word : (len at : ℕ) (f : Field) (more : List Field) (w : ℕ) (ws : List ℕ) → is_in f.range w ≡ true →
    first_fault len at (f ∷ more) (w ∷ ws) ≡ first_fault len (at + 4) more ws
unfolding first_fault
good_word len at f more w ws h = ap (λ b. cond b (first_fault len (at + 4) more ws) (Some (fault at f.kind))) h

bad_word : (len at : ℕ) (f : Field) (more : List Field) (w : ℕ) (ws : List ℕ) → is_in f.range w ≡ false →
    first_fault len at (f ∷ more) (w ∷ ws) ≡ Some (fault at f.kind)
unfolding first_fault
bad_word len at f more w ws h = ap (λ b. cond b (first_fault len (at + 4) more ws) (Some (fault at f.kind))) h

no_word : (len at : ℕ) (f : Field) (more : List Field) → first_fault len at (f ∷ more) [] ≡ Some (fault len Truncated)
unfolding first_fault
no_word len at f more = refl

good_field : (len : ℕ) (f : Field) (bytes : List ℕ) → length bytes ≤ len → 4 ≤ length bytes → is_in f.range (word_of_bytes (take 4 bytes)) ≡ true →
    IsRead len (f ∷ []) bytes (word_of_bytes (take 4 bytes) ∷ []) (drop 4 bytes)
good_field len f bytes within long good =
    let w = word_of_bytes (take 4 bytes) in
    let rest : List ℕ = drop 4 bytes in
    let next : (len - length bytes) + 4 ≡ len - length rest = omega (arith, length-drop 4 bytes) in
    record {
      taken = whole_words_split bytes long;
      left = omega (arith, length-drop 4 bytes);
      faultless = λ more.
          ap (λ (ws : List ℕ). first_fault len (len - length bytes) (f ∷ more) ws) (whole_words_split bytes long)
          ∙ good_word len (len - length bytes) f more w (whole_words rest) good
          ∙ ap (λ (at : ℕ). first_fault len at more (whole_words rest)) next;
    }

-- a field that was read
pub field_read : (len : ℕ) (f : Field) (bytes : List ℕ) (w : ℕ) (rest : List ℕ) → length bytes ≤ len → field_at len f bytes ≡ Ok (w, rest) →
    IsRead len (f ∷ []) bytes (w ∷ []) rest × (is_in f.range w ≡ true)
field_read len f bytes w rest within e =
    let word = word_of_bytes (take 4 bytes) in
    let given : Result (ℕ × List ℕ) ImageFault = Ok (word, drop 4 bytes) in
    let bad : Result (ℕ × List ℕ) ImageFault = Err (fault (len - length bytes) f.kind) in
    let short : Result (ℕ × List ℕ) ImageFault = Err (fault len Truncated) in
    let all : Result (ℕ × List ℕ) ImageFault = Ok (w, rest) in
    let Goal : Type 0 = IsRead len (f ∷ []) bytes (w ∷ []) rest × (is_in f.range w ≡ true) in
    elim (chosen (nat_lt (length bytes) 4) short (cond (is_in f.range word) given bad) all e) as (λ _. Goal) [
      | inl a ↦ absurd (not_both (w, rest) (fault len Truncated) (sym a.1))
      | inr a ↦ elim (chosen (is_in f.range word) given bad all a.1) as (λ _. Goal) [
        | inr b ↦ absurd (not_both (w, rest) (fault (len - length bytes) f.kind) (sym b.1))
        | inl b ↦ subst (λ (x : ℕ × List ℕ). IsRead len (f ∷ []) bytes (x.0 ∷ []) x.1 × (is_in f.range x.0 ≡ true)) (ok_is (word, drop 4 bytes) (w, rest) b.1)
            (good_field len f bytes within (ltb-false _ _ a.0) b.0, b.0)
      ]
    ]

-- a field that wasn't
pub field_fails : (len : ℕ) (f : Field) (bytes : List ℕ) (e : ImageFault) → length bytes ≤ len → field_at len f bytes ≡ Err e → IsFirstFault len (f ∷ []) bytes e
field_fails len f bytes e within h more =
    let word = word_of_bytes (take 4 bytes) in
    let given : Result (ℕ × List ℕ) ImageFault = Ok (word, drop 4 bytes) in
    let bad : Result (ℕ × List ℕ) ImageFault = Err (fault (len - length bytes) f.kind) in
    let short : Result (ℕ × List ℕ) ImageFault = Err (fault len Truncated) in
    let all : Result (ℕ × List ℕ) ImageFault = Err e in
    let Goal : Type 0 = fault_from len (f ∷ more) bytes ≡ Some e in
    let at = len - length bytes in
    elim (chosen (nat_lt (length bytes) 4) short (cond (is_in f.range word) given bad) all h) as (λ _. Goal) [
      | inl a ↦ ap (λ (ws : List ℕ). first_fault len at (f ∷ more) ws) (whole_words_short bytes (ltb-true _ _ a.0))
          ∙ no_word len at f more ∙ ap (λ (d : ImageFault). Some d) (err_is {A = ℕ × List ℕ} (fault len Truncated) e a.1)
      | inr a ↦ elim (chosen (is_in f.range word) given bad all a.1) as (λ _. Goal) [
        | inl b ↦ absurd (not_both (word, drop 4 bytes) e b.1)
        | inr b ↦ ap (λ (ws : List ℕ). first_fault len at (f ∷ more) ws) (whole_words_split bytes (ltb-false _ _ a.0))
            ∙ bad_word len at f more word (whole_words (drop 4 bytes)) b.0 ∙ ap (λ (d : ImageFault). Some d) (err_is {A = ℕ × List ℕ} (fault at f.kind) e b.1)
      ]
    ]

-- ---- the next field behind those that were read

pub next_read : (len : ℕ) (fs : List Field) (bytes ws rest : List ℕ) (f : Field) (w : ℕ) (after : List ℕ) → length bytes ≤ len → IsRead len fs bytes ws rest →
    field_at len f rest ≡ Ok (w, after) → IsRead len (fs ++ f ∷ []) bytes (ws ++ w ∷ []) after × (is_in f.range w ≡ true)
next_read len fs bytes ws rest f w after within r e =
    let inside : length rest ≤ len = omega (arith, r.left) in
    let one = field_read len f rest w after inside e in
    (read_then len fs (f ∷ []) bytes ws rest (w ∷ []) after r one.0, one.1)

pub next_fails : (len : ℕ) (fs : List Field) (bytes ws rest : List ℕ) (f : Field) (e : ImageFault) (more : List Field) → length bytes ≤ len → IsRead len fs bytes ws rest →
    field_at len f rest ≡ Err e → IsFirstFault len (fs ++ f ∷ more) bytes e
next_fails len fs bytes ws rest f e more within r h =
    let inside : length rest ≤ len = omega (arith, r.left) in
    fault_behind len fs (f ∷ more) bytes ws rest e r (fault_before len (f ∷ []) more rest e (field_fails len f rest e inside h))
