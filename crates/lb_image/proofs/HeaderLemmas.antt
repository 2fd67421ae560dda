-- Reading the fields before the first function.
use Rattle.std.proofs.Common.{◌≡◌, ℕ, ◌*◌, ◌≤◌, List, [], ◌∷◌, length, slice_index, Result, Ok, Err, sym, ap, subst, inl, inr, arith}
use Rattle.lb_syntax.specs.declared.limits.TheConstants.{MOST_FUNCTIONS, MOST_WORDS}
use Rattle.lb_image.specs.declared.error.ImageFault.{ImageFault}
use Rattle.lb_image.specs.declared.field.Field.{Field}
use Rattle.lb_image.specs.declared.reading.Header.{Header}
use Rattle.lb_image.specs.Images.{magic, version, IsMultipleBelow}
use Rattle.lb_image.specs.Fields.{magic_field, version_field, words_field, entry_field, functions_field, whole_words}
use Rattle.lb_image.specs.InternalReading.{◌>>=◌, field_at, header_at}
use Rattle.lb_image.proofs.RangeLemmas.{in_numbers, in_multiples}
use Rattle.lb_image.proofs.ResultLemmas.{ok_is, not_both, bind_ok, bind_err}
use Rattle.lb_image.proofs.FieldLemmas.{IsRead, IsFirstFault, nothing_read, next_read, next_fails}

abbrev pub with_functions : ℕ → ℕ → ℕ × List ℕ → Result (Header × List ℕ) ImageFault
with_functions words entry functions = Ok (record { words = words; entry = entry; functions = functions.0 }, functions.1)

abbrev pub with_entry : ℕ → ℕ → ℕ × List ℕ → Result (Header × List ℕ) ImageFault
with_entry len words entry = field_at len functions_field entry.1 >>= with_functions words entry.0

abbrev pub with_words : ℕ → ℕ × List ℕ → Result (Header × List ℕ) ImageFault
with_words len words = field_at len (entry_field words.0) words.1 >>= with_entry len words.0

abbrev pub with_second : ℕ → ℕ × List ℕ → Result (Header × List ℕ) ImageFault
with_second len second = field_at len words_field second.1 >>= with_words len

abbrev pub with_first : ℕ → ℕ × List ℕ → Result (Header × List ℕ) ImageFault
with_first len first = field_at len version_field first.1 >>= with_second len

-- the fields of a header that has this many words of code
abbrev pub header_fields : ℕ → List Field
header_fields words = magic_field ∷ version_field ∷ words_field ∷ entry_field words ∷ functions_field ∷ []

abbrev pub header_words : Header → List ℕ
header_words h = magic ∷ version ∷ h.words ∷ h.entry ∷ h.functions ∷ []

pub record IsHeader (h : Header) : Type 0 where
  pub some : 1 ≤ h.words
  pub few : h.words ≤ MOST_WORDS
  pub entry : IsMultipleBelow (4 * h.words) h.entry
  pub functions : h.functions ≤ MOST_FUNCTIONS

one_value : (n w : ℕ) → (n ≤ w) × (w ≤ n) → w ≡ n
one_value n w h = omega (arith, h.0, h.1)

pub header_read : (len : ℕ) (bytes : List ℕ) (h : Header) (rest : List ℕ) → length bytes ≤ len → header_at len bytes ≡ Ok (h, rest)
    → IsRead len (header_fields h.words) bytes (header_words h) rest × IsHeader h
unfolding header_at
header_read len bytes h rest within e =
    let m = bind_ok (field_at len magic_field bytes) (with_first len) (h, rest) e in
    let v = bind_ok (field_at len version_field m.0.1) (with_second len) (h, rest) m.2 in
    let w = bind_ok (field_at len words_field v.0.1) (with_words len) (h, rest) v.2 in
    let n = bind_ok (field_at len (entry_field w.0.0) w.0.1) (with_entry len w.0.0) (h, rest) w.2 in
    let f = bind_ok (field_at len functions_field n.0.1) (with_functions w.0.0 n.0.0) (h, rest) n.2 in
    let a = next_read len [] bytes [] bytes magic_field m.0.0 m.0.1 within (nothing_read len bytes) m.1 in
    let b = next_read len (magic_field ∷ []) bytes (m.0.0 ∷ []) m.0.1 version_field v.0.0 v.0.1 within a.0 v.1 in
    let c = next_read len (magic_field ∷ version_field ∷ []) bytes (m.0.0 ∷ v.0.0 ∷ []) v.0.1 words_field w.0.0 w.0.1 within b.0 w.1 in
    let d = next_read len (magic_field ∷ version_field ∷ words_field ∷ []) bytes (m.0.0 ∷ v.0.0 ∷ w.0.0 ∷ []) w.0.1 (entry_field w.0.0) n.0.0 n.0.1 within c.0 n.1 in
    let g = next_read len (magic_field ∷ version_field ∷ words_field ∷ entry_field w.0.0 ∷ []) bytes (m.0.0 ∷ v.0.0 ∷ w.0.0 ∷ n.0.0 ∷ []) n.0.1 functions_field f.0.0 f.0.1 within d.0 f.1 in
    let header : Header = record { words = w.0.0; entry = n.0.0; functions = f.0.0 } in
    let fits : IsHeader header = record {
      some = (in_numbers 1 MOST_WORDS w.0.0 c.1).0;
      few = (in_numbers 1 MOST_WORDS w.0.0 c.1).1;
      entry = in_multiples (4 * w.0.0) n.0.0 d.1;
      functions = (in_numbers 0 MOST_FUNCTIONS f.0.0 g.1).1;
    } in
    let named = subst (λ (k : ℕ). IsRead len (header_fields w.0.0) bytes (k ∷ v.0.0 ∷ w.0.0 ∷ n.0.0 ∷ f.0.0 ∷ []) f.0.1) (one_value magic m.0.0 (in_numbers magic magic m.0.0 a.1)) g.0 in
    let whole = subst (λ (k : ℕ). IsRead len (header_fields w.0.0) bytes (magic ∷ k ∷ w.0.0 ∷ n.0.0 ∷ f.0.0 ∷ []) f.0.1) (one_value version v.0.0 (in_numbers version version v.0.0 b.1)) named in
    subst (λ (p : Header × List ℕ). IsRead len (header_fields p.0.words) bytes (header_words p.0) p.1 × IsHeader p.0) (ok_is (header, f.0.1) (h, rest) f.2) (whole, fits)

pub header_fails : (len : ℕ) (bytes : List ℕ) (e : ImageFault) → length bytes ≤ len → header_at len bytes ≡ Err e
    → IsFirstFault len (header_fields (slice_index (whole_words bytes) 2)) bytes e
unfolding header_at
header_fails len bytes e within h =
    let third = slice_index (whole_words bytes) 2 in
    let Goal : Type 0 = IsFirstFault len (header_fields third) bytes e in
    let start = nothing_read len bytes in
    elim (bind_err (field_at len magic_field bytes) (with_first len) e h) as (λ _. Goal) [
      | inl k ↦ next_fails len [] bytes [] bytes magic_field e (version_field ∷ words_field ∷ entry_field third ∷ functions_field ∷ []) within start k
      | inr m ↦
          let a = next_read len [] bytes [] bytes magic_field m.0.0 m.0.1 within start m.1 in
          elim (bind_err (field_at len version_field m.0.1) (with_second len) e m.2) as (λ _. Goal) [
            | inl k ↦ next_fails len (magic_field ∷ []) bytes (m.0.0 ∷ []) m.0.1 version_field e (words_field ∷ entry_field third ∷ functions_field ∷ []) within a.0 k
            | inr v ↦
                let b = next_read len (magic_field ∷ []) bytes (m.0.0 ∷ []) m.0.1 version_field v.0.0 v.0.1 within a.0 v.1 in
                elim (bind_err (field_at len words_field v.0.1) (with_words len) e v.2) as (λ _. Goal) [
                  | inl k ↦ next_fails len (magic_field ∷ version_field ∷ []) bytes (m.0.0 ∷ v.0.0 ∷ []) v.0.1 words_field e (entry_field third ∷ functions_field ∷ []) within b.0 k
                  | inr w ↦
                      let c = next_read len (magic_field ∷ version_field ∷ []) bytes (m.0.0 ∷ v.0.0 ∷ []) v.0.1 words_field w.0.0 w.0.1 within b.0 w.1 in
                      let words_is : third ≡ w.0.0 = ap (λ (l : List ℕ). slice_index l 2) c.0.taken in
                      subst (λ (j : ℕ). IsFirstFault len (header_fields j) bytes e) (sym words_is)
                      (elim (bind_err (field_at len (entry_field w.0.0) w.0.1) (with_entry len w.0.0) e w.2) as (λ _. IsFirstFault len (header_fields w.0.0) bytes e) [
                        | inl k ↦ next_fails len (magic_field ∷ version_field ∷ words_field ∷ []) bytes (m.0.0 ∷ v.0.0 ∷ w.0.0 ∷ []) w.0.1 (entry_field w.0.0) e (functions_field ∷ []) within c.0 k
                        | inr n ↦
                            let d = next_read len (magic_field ∷ version_field ∷ words_field ∷ []) bytes (m.0.0 ∷ v.0.0 ∷ w.0.0 ∷ []) w.0.1 (entry_field w.0.0) n.0.0 n.0.1 within c.0 n.1 in
                            elim (bind_err (field_at len functions_field n.0.1) (with_functions w.0.0 n.0.0) e n.2) as (λ _. IsFirstFault len (header_fields w.0.0) bytes e) [
                              | inl k ↦ next_fails len (magic_field ∷ version_field ∷ words_field ∷ entry_field w.0.0 ∷ []) bytes (m.0.0 ∷ v.0.0 ∷ w.0.0 ∷ n.0.0 ∷ []) n.0.1 functions_field e [] within d.0 k
                              | inr f ↦ let header : Header = record { words = w.0.0; entry = n.0.0; functions = f.0.0 } in absurd (not_both (header, f.0.1) e f.2)
                            ]
                      ])
                ]
          ]
    ]
