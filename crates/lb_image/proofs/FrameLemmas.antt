-- Reading the frames: what is there when they were read, and which fault there is when they weren't.
use Rattle.std.proofs.Common.{◌≡◌, ℕ, ◌+◌, ◌/◌, ◌≤◌, true, List, [], ◌∷◌, ◌++◌, length, drop, replicate, slice_index, Result, Ok, Err, refl, sym, ap, subst, ◌∙◌, inl, inr, arith}
use Rattle.std.specs.List.{flat_map, AllByRecursion}
use Rattle.std.proofs.lemmas.List.{drop_at}
use Rattle.std.proofs.lemmas.List.Elements.{All-from_recursion}
use Rattle.lb_memory.specs.declared.TheConstants.{MOST_STACK}
use Rattle.lb_syntax.specs.declared.layout.FrameLayout.{FrameLayout}
use Rattle.lb_image.specs.declared.error.ImageFault.{ImageFault}
use Rattle.lb_image.specs.declared.field.Field.{Field}
use Rattle.lb_image.specs.declared.field.FieldRange.TheVariants.{Multiples}
use Rattle.lb_image.specs.Images.{frame_words, IsFrame, IsMultipleBelow}
use Rattle.lb_image.specs.Fields.{is_in, size_field, sites_field, site_field, frame_fields, layout_fields, whole_words}
use Rattle.lb_image.specs.InternalReading.{◌>>=◌, field_at, repeat_at, frame_at}
use Rattle.lb_image.proofs.RangeLemmas.{in_numbers, in_multiples}
use Rattle.lb_image.proofs.ResultLemmas.{ok_is, not_both, bind_ok, bind_err}
use Rattle.lb_image.proofs.FieldLemmas.{IsRead, IsFirstFault, read_then, fault_behind, nothing_read, next_read, next_fails}
use Rattle.lb_image.proofs.RepeatLemmas.{IsReader, IsRepeated, repeat_good, repeat_bad, fields_read, fields_fail}

abbrev pub with_sites : ℕ → List ℕ × List ℕ → Result (FrameLayout × List ℕ) ImageFault
with_sites size sites = Ok (record { size = size; sites = sites.0 }, sites.1)

abbrev pub with_count : ℕ → ℕ → ℕ × List ℕ → Result (FrameLayout × List ℕ) ImageFault
with_count len size count = repeat_at (field_at len (site_field size)) count.0 count.1 >>= with_sites size

abbrev pub with_size : ℕ → ℕ × List ℕ → Result (FrameLayout × List ℕ) ImageFault
with_size len size = field_at len (sites_field size.0) size.1 >>= with_count len size.0

-- the fields of the function that these bytes begin with
abbrev one_frame : List ℕ → List Field
one_frame bytes = frame_fields (slice_index (whole_words bytes) 0) (slice_index (whole_words bytes) 1)

multiples_inside : (size : ℕ) (ws : List ℕ) → AllByRecursion (λ w. is_in (Multiples size) w ≡ true) ws → AllByRecursion (IsMultipleBelow size) ws
multiples_inside size [] h = tt
multiples_inside size (w ∷ ws) h = (in_multiples size w h.0, multiples_inside size ws h.1)

frame_in_range : (size count : ℕ) (ws : List ℕ) → is_in (size_field).range size ≡ true → is_in (sites_field size).range count ≡ true → length ws ≡ count
    → AllByRecursion (λ w. is_in (Multiples size) w ≡ true) ws → IsFrame (record { size = size; sites = ws })
frame_in_range size count ws a b e c =
    let s = in_multiples (MOST_STACK + 1) size a in
    let n = in_numbers 0 (size / 4) count b in
    record {
      whole = s.0;
      small = omega (arith, s.1);
      few = omega (arith, n.1, e);
      inside = All-from_recursion (IsMultipleBelow size) ws (multiples_inside size ws c);
    }

frame_shape : (len : ℕ) (bytes : List ℕ) (size count : ℕ) (ws rest : List ℕ) → length ws ≡ count → IsRead len (frame_fields size count) bytes (size ∷ count ∷ ws) rest
    → IsRead len (one_frame bytes) bytes (size ∷ length ws ∷ ws) rest
frame_shape len bytes size count ws rest e r =
    let first : slice_index (whole_words bytes) 0 ≡ size = ap (λ (l : List ℕ). slice_index l 0) r.taken in
    let second : slice_index (whole_words bytes) 1 ≡ count = ap (λ (l : List ℕ). slice_index l 1) r.taken in
    let a = subst (λ (k : ℕ). IsRead len (frame_fields k count) bytes (size ∷ count ∷ ws) rest) (sym first) r in
    let b = subst (λ (k : ℕ). IsRead len (frame_fields (slice_index (whole_words bytes) 0) k) bytes (size ∷ count ∷ ws) rest) (sym second) a in
    subst (λ (k : ℕ). IsRead len (one_frame bytes) bytes (size ∷ k ∷ ws) rest) (sym e) b

frame_good : (len : ℕ) (bytes : List ℕ) (x : FrameLayout) (rest : List ℕ) → length bytes ≤ len → frame_at len bytes ≡ Ok (x, rest)
    → IsRead len (one_frame bytes) bytes (frame_words x) rest × IsFrame x
unfolding frame_at
frame_good len bytes x rest within e =
    let s = bind_ok (field_at len size_field bytes) (with_size len) (x, rest) e in
    let n = bind_ok (field_at len (sites_field s.0.0) s.0.1) (with_count len s.0.0) (x, rest) s.2 in
    let o = bind_ok (repeat_at (field_at len (site_field s.0.0)) n.0.0 n.0.1) (with_sites s.0.0) (x, rest) n.2 in
    let a = next_read len [] bytes [] bytes size_field s.0.0 s.0.1 within (nothing_read len bytes) s.1 in
    let b = next_read len (size_field ∷ []) bytes (s.0.0 ∷ []) s.0.1 (sites_field s.0.0) n.0.0 n.0.1 within a.0 n.1 in
    let inside : length n.0.1 ≤ len = omega (arith, b.0.left) in
    let c = fields_read len (site_field s.0.0) n.0.0 n.0.1 o.0.0 o.0.1 inside o.1 in
    let whole = read_then len (size_field ∷ sites_field s.0.0 ∷ []) (replicate n.0.0 (site_field s.0.0)) bytes (s.0.0 ∷ n.0.0 ∷ []) n.0.1 o.0.0 o.0.1 b.0 c.0 in
    let frame : FrameLayout = record { size = s.0.0; sites = o.0.0 } in
    subst (λ (p : FrameLayout × List ℕ). IsRead len (one_frame bytes) bytes (frame_words p.0) p.1 × IsFrame p.0) (ok_is (frame, o.0.1) (x, rest) o.2)
    (frame_shape len bytes s.0.0 n.0.0 o.0.0 o.0.1 c.1 whole, frame_in_range s.0.0 n.0.0 o.0.0 a.1 b.1 c.1 c.2)

frame_bad : (len : ℕ) (bytes : List ℕ) (e : ImageFault) → length bytes ≤ len → frame_at len bytes ≡ Err e → IsFirstFault len (one_frame bytes) bytes e
unfolding frame_at
frame_bad len bytes e within h =
    let Goal : Type 0 = IsFirstFault len (one_frame bytes) bytes e in
    let first = slice_index (whole_words bytes) 0 in
    let second = slice_index (whole_words bytes) 1 in
    let start = nothing_read len bytes in
    elim (bind_err (field_at len size_field bytes) (with_size len) e h) as (λ _. Goal) [
      | inl k ↦ next_fails len [] bytes [] bytes size_field e (sites_field first ∷ replicate second (site_field first)) within start k
      | inr s ↦
          let a = next_read len [] bytes [] bytes size_field s.0.0 s.0.1 within start s.1 in
          let size_is : first ≡ s.0.0 = ap (λ (l : List ℕ). slice_index l 0) a.0.taken in
          elim (bind_err (field_at len (sites_field s.0.0) s.0.1) (with_count len s.0.0) e s.2) as (λ _. Goal) [
            | inl k ↦ subst (λ (j : ℕ). IsFirstFault len (frame_fields j second) bytes e) (sym size_is)
                (next_fails len (size_field ∷ []) bytes (s.0.0 ∷ []) s.0.1 (sites_field s.0.0) e (replicate second (site_field s.0.0)) within a.0 k)
            | inr n ↦
                let b = next_read len (size_field ∷ []) bytes (s.0.0 ∷ []) s.0.1 (sites_field s.0.0) n.0.0 n.0.1 within a.0 n.1 in
                let count_is : second ≡ n.0.0 = ap (λ (l : List ℕ). slice_index l 1) b.0.taken in
                let inside : length n.0.1 ≤ len = omega (arith, b.0.left) in
                elim (bind_err (repeat_at (field_at len (site_field s.0.0)) n.0.0 n.0.1) (with_sites s.0.0) e n.2) as (λ _. Goal) [
                  | inl k ↦
                      let f = fault_behind len (size_field ∷ sites_field s.0.0 ∷ []) (replicate n.0.0 (site_field s.0.0)) bytes (s.0.0 ∷ n.0.0 ∷ []) n.0.1 e b.0
                      (fields_fail len (site_field s.0.0) n.0.0 n.0.1 e inside k) in
                      let g = subst (λ (j : ℕ). IsFirstFault len (frame_fields s.0.0 j) bytes e) (sym count_is) f in
                      subst (λ (j : ℕ). IsFirstFault len (frame_fields j second) bytes e) (sym size_is) g
                  | inr o ↦ let frame : FrameLayout = record { size = s.0.0; sites = o.0.0 } in absurd (not_both (frame, o.0.1) e o.2)
                ]
          ]
    ]

-- ---- frames, one behind the other

frame_reader : (len : ℕ) → IsReader len (frame_at len) one_frame frame_words IsFrame
frame_reader len = record {
  good = λ bytes x rest within e. frame_good len bytes x rest within e;
  bad = λ bytes e within h. frame_bad len bytes e within h;
}

abbrev all_frames : ℕ → List ℕ → List Field
all_frames n bytes = layout_fields n (whole_words bytes)

frame_repeated : (len : ℕ) → IsRepeated len one_frame all_frames frame_words
unfolding layout_fields
frame_repeated len = record {
  none = λ bytes. refl;
  next = λ n bytes x rest r.
      let k = 2 + slice_index (whole_words bytes) 1 in
      let count_is : slice_index (whole_words bytes) 1 ≡ length x.sites = ap (λ (l : List ℕ). slice_index l 1) r.taken in
      let size : length (frame_words x) ≡ k = omega (arith, count_is) in
      let behind : drop k (whole_words bytes) ≡ whole_words rest =
      ap (λ (l : List ℕ). drop k l) r.taken ∙ drop_at (frame_words x) (whole_words rest) k size in
      ap (λ (l : List ℕ). one_frame bytes ++ layout_fields n l) behind;
  starts = λ n bytes. (layout_fields n (drop (2 + slice_index (whole_words bytes) 1) (whole_words bytes)), refl);
}

pub frames_read : (len n : ℕ) (bytes : List ℕ) (xs : List FrameLayout) (rest : List ℕ) → length bytes ≤ len → repeat_at (frame_at len) n bytes ≡ Ok (xs, rest)
    → IsRead len (layout_fields n (whole_words bytes)) bytes (flat_map frame_words xs) rest × (length xs ≡ n) × AllByRecursion IsFrame xs
frames_read len n bytes xs rest within e =
    repeat_good len (frame_at len) one_frame all_frames frame_words IsFrame (frame_reader len) (frame_repeated len) n bytes xs rest within e

pub frames_fail : (len n : ℕ) (bytes : List ℕ) (e : ImageFault) → length bytes ≤ len → repeat_at (frame_at len) n bytes ≡ Err e
    → IsFirstFault len (layout_fields n (whole_words bytes)) bytes e
frames_fail len n bytes e within h =
    repeat_bad len (frame_at len) one_frame all_frames frame_words IsFrame (frame_reader len) (frame_repeated len) n bytes e within h
