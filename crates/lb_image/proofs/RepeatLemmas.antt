-- Reading the same n times: what is there when all was read, and which fault there is when it wasn't.
use Rattle.std.proofs.Common.{◌≡◌, ℕ, zero, suc, ◌≤◌, true, List, [], ◌∷◌, ◌++◌, length, replicate, Result, Ok, Err, refl, sym, ap, subst, inl, inr, arith}
use Rattle.std.specs.List.{flat_map, AllByRecursion}
use Rattle.lb_image.specs.declared.error.ImageFault.{ImageFault}
use Rattle.lb_image.specs.declared.field.Field.{Field}
use Rattle.lb_image.specs.Fields.{is_in}
use Rattle.lb_image.specs.InternalReading.{◌>>=◌, field_at, repeat_at}
use Rattle.lb_image.proofs.ResultLemmas.{ok_is, not_both, bind_ok, bind_err}
use Rattle.lb_image.proofs.FieldLemmas.{IsRead, IsFirstFault, read_then, fault_behind, fault_before, nothing_read, field_read, field_fails}

-- what it reads are these fields
pub record IsReader {A : Type 0} (len : ℕ) (read : List ℕ → Result (A × List ℕ) ImageFault) (one : List ℕ → List Field) (words : A → List ℕ) (P : A → Type 0) : Type 0 where
  pub good : (bytes : List ℕ) (x : A) (rest : List ℕ) → length bytes ≤ len → read bytes ≡ Ok (x, rest) → IsRead len (one bytes) bytes (words x) rest × P x
  pub bad : (bytes : List ℕ) (e : ImageFault) → length bytes ≤ len → read bytes ≡ Err e → IsFirstFault len (one bytes) bytes e

-- the fields `all` are those of `one`, n times
pub record IsRepeated {A : Type 0} (len : ℕ) (one : List ℕ → List Field) (all : ℕ → List ℕ → List Field) (words : A → List ℕ) : Type 0 where
  pub none : (bytes : List ℕ) → all zero bytes ≡ []
  pub next : (n : ℕ) (bytes : List ℕ) (x : A) (rest : List ℕ) → IsRead len (one bytes) bytes (words x) rest → all (suc n) bytes ≡ one bytes ++ all n rest
  pub starts : (n : ℕ) (bytes : List ℕ) → (more : List Field) × (all (suc n) bytes ≡ one bytes ++ more)

abbrev pub joined : {A : Type 0} → A → List A × List ℕ → Result (List A × List ℕ) ImageFault
joined x others = Ok (x ∷ others.0, others.1)

abbrev pub with_first : {A : Type 0} → (List ℕ → Result (A × List ℕ) ImageFault) → ℕ → A × List ℕ → Result (List A × List ℕ) ImageFault
with_first read n first = repeat_at read n first.1 >>= joined first.0

pub repeat_good : {A : Type 0} (len : ℕ) (read : List ℕ → Result (A × List ℕ) ImageFault) (one : List ℕ → List Field) (all : ℕ → List ℕ → List Field) (words : A → List ℕ) (P : A → Type 0)
    → IsReader len read one words P → IsRepeated len one all words → (n : ℕ) (bytes : List ℕ) (xs : List A) (rest : List ℕ) → length bytes ≤ len → repeat_at read n bytes ≡ Ok (xs, rest)
    → IsRead len (all n bytes) bytes (flat_map words xs) rest × (length xs ≡ n) × AllByRecursion P xs
unfolding repeat_at
repeat_good {A} len read one all words P reader repeated zero bytes xs rest within e =
    let nothing : List A = [] in
    let start : IsRead len (all zero bytes) bytes [] bytes = subst (λ (fs : List Field). IsRead len fs bytes [] bytes) (sym (repeated.none bytes)) (nothing_read len bytes) in
    subst (λ (p : List A × List ℕ). IsRead len (all zero bytes) bytes (flat_map words p.0) p.1 × (length p.0 ≡ 0) × AllByRecursion P p.0) (ok_is (nothing, bytes) (xs, rest) e) (start, refl, tt)
repeat_good {A} len read one all words P reader repeated (suc n) bytes xs rest within e =
    let a = bind_ok (read bytes) (with_first read n) (xs, rest) e in
    let b = bind_ok (repeat_at read n a.0.1) (joined a.0.0) (xs, rest) a.2 in
    let first = reader.good bytes a.0.0 a.0.1 within a.1 in
    let inside : length a.0.1 ≤ len = omega (arith, first.0.left) in
    let others = repeat_good len read one all words P reader repeated n a.0.1 b.0.0 b.0.1 inside b.1 in
    let both = read_then len (one bytes) (all n a.0.1) bytes (words a.0.0) a.0.1 (flat_map words b.0.0) b.0.1 first.0 others.0 in
    let whole : IsRead len (all (suc n) bytes) bytes (words a.0.0 ++ flat_map words b.0.0) b.0.1 =
    subst (λ (fs : List Field). IsRead len fs bytes (words a.0.0 ++ flat_map words b.0.0) b.0.1) (sym (repeated.next n bytes a.0.0 a.0.1 first.0)) both in
    subst (λ (p : List A × List ℕ). IsRead len (all (suc n) bytes) bytes (flat_map words p.0) p.1 × (length p.0 ≡ suc n) × AllByRecursion P p.0)
    (ok_is (a.0.0 ∷ b.0.0, b.0.1) (xs, rest) b.2) (whole, ap suc others.1, (first.1, others.2))

pub repeat_bad : {A : Type 0} (len : ℕ) (read : List ℕ → Result (A × List ℕ) ImageFault) (one : List ℕ → List Field) (all : ℕ → List ℕ → List Field) (words : A → List ℕ) (P : A → Type 0)
    → IsReader len read one words P → IsRepeated len one all words → (n : ℕ) (bytes : List ℕ) (e : ImageFault) → length bytes ≤ len → repeat_at read n bytes ≡ Err e
    → IsFirstFault len (all n bytes) bytes e
unfolding repeat_at
repeat_bad {A} len read one all words P reader repeated zero bytes e within h = let nothing : List A = [] in absurd (not_both (nothing, bytes) e h)
repeat_bad {A} len read one all words P reader repeated (suc n) bytes e within h =
    let Goal : Type 0 = IsFirstFault len (all (suc n) bytes) bytes e in
    elim (bind_err (read bytes) (with_first read n) e h) as (λ _. Goal) [
      | inl k ↦
          let s = repeated.starts n bytes in
          subst (λ (fs : List Field). IsFirstFault len fs bytes e) (sym s.1) (fault_before len (one bytes) s.0 bytes e (reader.bad bytes e within k))
      | inr a ↦
          let first = reader.good bytes a.0.0 a.0.1 within a.1 in
          let inside : length a.0.1 ≤ len = omega (arith, first.0.left) in
          elim (bind_err (repeat_at read n a.0.1) (joined a.0.0) e a.2) as (λ _. Goal) [
            | inl k ↦ subst (λ (fs : List Field). IsFirstFault len fs bytes e) (sym (repeated.next n bytes a.0.0 a.0.1 first.0))
                (fault_behind len (one bytes) (all n a.0.1) bytes (words a.0.0) a.0.1 e first.0 (repeat_bad len read one all words P reader repeated n a.0.1 e inside k))
            | inr b ↦ absurd (not_both (a.0.0 ∷ b.0.0, b.0.1) e b.2)
          ]
    ]

-- ---- fields of one kind

abbrev single : ℕ → List ℕ
single w = w ∷ []

pub singles : (ws : List ℕ) → flat_map single ws ≡ ws
singles [] = refl
singles (w ∷ ws) = ap (λ (t : List ℕ). w ∷ t) (singles ws)

field_reader : (len : ℕ) (f : Field) → IsReader len (field_at len f) (λ (_ : List ℕ). f ∷ []) single (λ w. is_in f.range w ≡ true)
field_reader len f = record {
  good = λ bytes w rest within e. field_read len f bytes w rest within e;
  bad = λ bytes e within h. field_fails len f bytes e within h;
}

field_repeated : (len : ℕ) (f : Field) → IsRepeated len (λ (_ : List ℕ). f ∷ []) (λ (n : ℕ) (_ : List ℕ). replicate n f) single
field_repeated len f = record {
  none = λ bytes. refl;
  next = λ n bytes x rest r. refl;
  starts = λ n bytes. (replicate n f, refl);
}

pub fields_read : (len : ℕ) (f : Field) (n : ℕ) (bytes ws rest : List ℕ) → length bytes ≤ len → repeat_at (field_at len f) n bytes ≡ Ok (ws, rest)
    → IsRead len (replicate n f) bytes ws rest × (length ws ≡ n) × AllByRecursion (λ w. is_in f.range w ≡ true) ws
fields_read len f n bytes ws rest within e =
    let r = repeat_good len (field_at len f) (λ (_ : List ℕ). f ∷ []) (λ (n : ℕ) (_ : List ℕ). replicate n f) single (λ w. is_in f.range w ≡ true)
    (field_reader len f) (field_repeated len f) n bytes ws rest within e in
    (subst (λ (t : List ℕ). IsRead len (replicate n f) bytes t rest) (singles ws) r.0, r.1, r.2)

pub fields_fail : (len : ℕ) (f : Field) (n : ℕ) (bytes : List ℕ) (e : ImageFault) → length bytes ≤ len → repeat_at (field_at len f) n bytes ≡ Err e
    → IsFirstFault len (replicate n f) bytes e
fields_fail len f n bytes e within h =
    repeat_bad len (field_at len f) (λ (_ : List ℕ). f ∷ []) (λ (n : ℕ) (_ : List ℕ). replicate n f) single (λ w. is_in f.range w ≡ true)
    (field_reader len f) (field_repeated len f) n bytes e within h
