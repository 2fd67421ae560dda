-- Reading a whole image: what the bytes are when it was read, and which fault they have when it wasn't.
use Rattle.std.proofs.Common.{◌≡◌, ℕ, zero, suc, ◌-◌, ◌*◌, ◌^◌, ◌<◌, ◌≤◌, true, false, Bool, cond, nat_eq, List, [], ◌∷◌, ◌++◌, length, drop, replicate, slice_index, Some, None, Result, Ok, Err, refl, sym, ap, subst, ◌∙◌, ◌⊎◌, inl, inr, arith, append-nil, le-ltb, lt-ltb, eqb-true, eq-eqb}
use Rattle.std.specs.List.{flat_map, AllByRecursion}
use Rattle.std.proofs.lemmas.List.Elements.{All-from_recursion}
use Rattle.std.proofs.lemmas.Bool.{false≢true}
use Rattle.lb_syntax.specs.declared.layout.FrameLayout.{FrameLayout}
use Rattle.lb_syntax.specs.WellFormed.{IsWord}
use Rattle.lb_image.specs.declared.error.ImageFault.{ImageFault}
use Rattle.lb_image.specs.declared.error.ImageKind.TheVariants.{Extra}
use Rattle.lb_image.specs.declared.field.Field.{Field}
use Rattle.lb_image.specs.declared.image.Image.{Image}
use Rattle.lb_image.specs.declared.reading.Header.{Header}
use Rattle.lb_image.specs.Images.{magic, version, frame_words, image_words, IsFrame, IsImage}
use Rattle.lb_image.specs.Fields.{is_in, fault, fields, layout_fields, code_field, whole_words, first_fault, fault_of}
use Rattle.lb_image.specs.InternalReading.{◌>>=◌, field_at, repeat_at, frame_at, header_at, image_at}
use Rattle.lb_image.proofs.WordLemmas.{whole_words_short}
use Rattle.lb_image.proofs.RangeLemmas.{in_numbers}
use Rattle.lb_image.proofs.ResultLemmas.{ok_is, err_is, not_both, bind_ok, bind_err, chosen}
use Rattle.lb_image.proofs.FieldLemmas.{fault_from, IsRead, IsFirstFault, read_then, fault_behind, fault_before}
use Rattle.lb_image.proofs.RepeatLemmas.{fields_read, fields_fail}
use Rattle.lb_image.proofs.FrameLemmas.{frames_read, frames_fail}
use Rattle.lb_image.proofs.HeaderLemmas.{IsHeader, header_fields, header_words, header_read, header_fails}

abbrev pub made : Header → List FrameLayout → List ℕ → Image
made header frames code = record { code = code; layout = record { frames = frames }; entry = header.entry }

abbrev pub with_code : ℕ → Header → List FrameLayout → List ℕ × List ℕ → Result Image ImageFault
with_code len header frames code = cond (nat_eq (length code.1) 0) (Ok (made header frames code.0)) (Err (fault (len - length code.1) Extra))

abbrev pub with_frames : ℕ → Header → List FrameLayout × List ℕ → Result Image ImageFault
with_frames len header frames = repeat_at (field_at len code_field) header.words frames.1 >>= with_code len header frames.0

abbrev pub with_header : ℕ → Header × List ℕ → Result Image ImageFault
with_header len header = repeat_at (frame_at len) header.0.functions header.1 >>= with_frames len header.0

-- ---- the fields, as reading meets them

-- those behind the header
abbrev rest_fields : Header → List ℕ → List Field
rest_fields h rest = layout_fields h.functions rest ++ replicate h.words code_field

fields_are : (ws : List ℕ) (h : Header) (rest : List ℕ) → ws ≡ header_words h ++ rest → fields ws ≡ header_fields h.words ++ rest_fields h rest
fields_are ws h rest e = ap (λ (l : List ℕ). fields l) e

-- the first fault, where the fields are these
fault_of_is : (bytes : List ℕ) (fs : List Field) → fields (whole_words bytes) ≡ fs → fault_of bytes ≡ fault_from (length bytes) fs bytes
fault_of_is bytes fs e =
    let start : 0 ≡ length bytes - length bytes = omega arith in
    ap (λ (l : List Field). first_fault (length bytes) 0 l (whole_words bytes)) e
    ∙ ap (λ (at : ℕ). first_fault (length bytes) at fs (whole_words bytes)) start

-- a fault beside these fields is the first
fault_found : (bytes : List ℕ) (fs : List Field) (e : ImageFault) → fields (whole_words bytes) ≡ fs → IsFirstFault (length bytes) fs bytes e → fault_of bytes ≡ Some e
fault_found bytes fs e h f =
    fault_of_is bytes fs h ∙ ap (λ (l : List Field). fault_from (length bytes) l bytes) (sym (append-nil fs)) ∙ f []

at_the_end : (len at : ℕ) (ws : List ℕ) → len ≤ at → first_fault len at [] ws ≡ None
unfolding first_fault
at_the_end len at ws h = ap (λ (b : Bool). cond b (Some (fault at Extra)) None) (le-ltb at len h)

before_the_end : (len at : ℕ) (ws : List ℕ) → at < len → first_fault len at [] ws ≡ Some (fault at Extra)
unfolding first_fault
before_the_end len at ws h = ap (λ (b : Bool). cond b (Some (fault at Extra)) None) (lt-ltb at len h)

-- what stands behind the last field decides
fault_of_rest : (bytes : List ℕ) (fs : List Field) (ws rest : List ℕ) → fields (whole_words bytes) ≡ fs → IsRead (length bytes) fs bytes ws rest
    → fault_of bytes ≡ fault_from (length bytes) [] rest
fault_of_rest bytes fs ws rest h r =
    fault_of_is bytes fs h ∙ ap (λ (l : List Field). fault_from (length bytes) l bytes) (sym (append-nil fs)) ∙ r.faultless []

-- ---- an image that was read

pub record IsFound (bytes : List ℕ) (i : Image) : Type 0 where
  pub words : whole_words bytes ≡ image_words i
  pub whole : length bytes ≡ 4 * length (whole_words bytes)
  pub faultless : fault_of bytes ≡ None
  pub image : IsImage i

words_below : (ws : List ℕ) → AllByRecursion (λ w. is_in (code_field).range w ≡ true) ws → AllByRecursion IsWord ws
words_below [] h = tt
words_below (w ∷ ws) h = let small : w < 2 ^ 32 = omega (arith, (in_numbers 0 (2 ^ 32 - 1) w h.0).1) in (small, words_below ws h.1)

image_in_range : (h : Header) (frames : List FrameLayout) (code : List ℕ) → IsHeader h → length frames ≡ h.functions → AllByRecursion IsFrame frames
    → length code ≡ h.words → AllByRecursion (λ w. is_in (code_field).range w ≡ true) code → IsImage (made h frames code)
image_in_range h frames code fits n each words any = record {
  range = record {
    some = omega (arith, fits.some, words);
    few = omega (arith, fits.few, words);
    entry = (fits.entry.0, omega (arith, fits.entry.1, words));
    functions = omega (arith, fits.functions, n);
    frames = All-from_recursion IsFrame frames each;
  };
  words = All-from_recursion IsWord code (words_below code any);
}

-- the fields that were read, all in all
all_read : (len : ℕ) (bytes : List ℕ) (h : Header) (b : List ℕ) (frames : List FrameLayout) (c code rest : List ℕ)
    → IsRead len (header_fields h.words) bytes (header_words h) b → IsRead len (layout_fields h.functions (whole_words b)) b (flat_map frame_words frames) c
    → IsRead len (replicate h.words code_field) c code rest
    → IsRead len (header_fields h.words ++ rest_fields h (whole_words b)) bytes (header_words h ++ (flat_map frame_words frames ++ code)) rest
all_read len bytes h b frames c code rest p q r =
    let behind = read_then len (layout_fields h.functions (whole_words b)) (replicate h.words code_field) b (flat_map frame_words frames) c code rest q r in
    read_then len (header_fields h.words) (rest_fields h (whole_words b)) bytes (header_words h) b (flat_map frame_words frames ++ code) rest p behind

found : (bytes : List ℕ) (h : Header) (b : List ℕ) (frames : List FrameLayout) (code rest : List ℕ) → fields (whole_words bytes) ≡ header_fields h.words ++ rest_fields h (whole_words b)
    → IsRead (length bytes) (header_fields h.words ++ rest_fields h (whole_words b)) bytes (header_words h ++ (flat_map frame_words frames ++ code)) rest
    → length rest ≡ 0 → length frames ≡ h.functions → length code ≡ h.words → IsImage (made h frames code) → IsFound bytes (made h frames code)
found bytes h b frames code rest e r none n words is =
    let ws = header_words h ++ (flat_map frame_words frames ++ code) in
    let nothing : whole_words rest ≡ [] = whole_words_short rest (omega (arith, none)) in
    let taken : whole_words bytes ≡ ws = r.taken ∙ ap (λ (l : List ℕ). ws ++ l) nothing ∙ append-nil ws in
    let same_words : ws ≡ image_words (made h frames code) =
    ap (λ (k : ℕ). magic ∷ version ∷ k ∷ h.entry ∷ h.functions ∷ (flat_map frame_words frames ++ code)) (sym words)
    ∙ ap (λ (k : ℕ). magic ∷ version ∷ length code ∷ h.entry ∷ k ∷ (flat_map frame_words frames ++ code)) (sym n) in
    record {
      words = taken ∙ same_words;
      whole = omega (arith, r.left, none, ap (length {A = ℕ}) taken);
      faultless = fault_of_rest bytes (header_fields h.words ++ rest_fields h (whole_words b)) ws rest e r
          ∙ at_the_end (length bytes) (length bytes - length rest) (whole_words rest) (omega (arith, none));
      image = is;
    }

pub image_found : (bytes : List ℕ) (i : Image) → image_at bytes ≡ Ok i → IsFound bytes i
unfolding image_at
image_found bytes i e =
    let len = length bytes in
    let h = bind_ok (header_at len bytes) (with_header len) i e in
    let f = bind_ok (repeat_at (frame_at len) h.0.0.functions h.0.1) (with_frames len h.0.0) i h.2 in
    let c = bind_ok (repeat_at (field_at len code_field) h.0.0.words f.0.1) (with_code len h.0.0 f.0.0) i f.2 in
    let within : length bytes ≤ len = omega arith in
    let a = header_read len bytes h.0.0 h.0.1 within h.1 in
    let inside : length h.0.1 ≤ len = omega (arith, a.0.left) in
    let b = frames_read len h.0.0.functions h.0.1 f.0.0 f.0.1 inside f.1 in
    let behind : length f.0.1 ≤ len = omega (arith, inside, b.0.left) in
    let d = fields_read len code_field h.0.0.words f.0.1 c.0.0 c.0.1 behind c.1 in
    let is = image_in_range h.0.0 f.0.0 c.0.0 a.1 b.1 b.2 d.1 d.2 in
    let all = all_read len bytes h.0.0 h.0.1 f.0.0 f.0.1 c.0.0 c.0.1 a.0 b.0 d.0 in
    let same = fields_are (whole_words bytes) h.0.0 (whole_words h.0.1) a.0.taken in
    let image = made h.0.0 f.0.0 c.0.0 in
    let yes : Result Image ImageFault = Ok image in
    let no : Result Image ImageFault = Err (fault (len - length c.0.1) Extra) in
    let whole : Result Image ImageFault = Ok i in
    elim (chosen (nat_eq (length c.0.1) 0) yes no whole c.2) as (λ _. IsFound bytes i) [
      | inl t ↦ subst (λ (j : Image). IsFound bytes j) (ok_is image i t.1)
          (found bytes h.0.0 h.0.1 f.0.0 c.0.0 c.0.1 same all (eqb-true _ _ t.0) b.1 d.1 is)
      | inr t ↦ absurd (not_both i (fault (len - length c.0.1) Extra) (sym t.1))
    ]

-- ---- an image that wasn't read

cases_zero : (n : ℕ) → (n ≡ 0) ⊎ (0 < n)
cases_zero zero = inl refl
cases_zero (suc n) = inr (omega arith)

extra : (bytes : List ℕ) (fs : List Field) (ws rest : List ℕ) (e : ImageFault) → fields (whole_words bytes) ≡ fs → IsRead (length bytes) fs bytes ws rest
    → nat_eq (length rest) 0 ≡ false → fault (length bytes - length rest) Extra ≡ e → fault_of bytes ≡ Some e
extra bytes fs ws rest e h r some is =
    let more : 0 < length rest = elim (cases_zero (length rest)) [ inl z ↦ absurd (false≢true (sym some ∙ eq-eqb (length rest) 0 z)) | inr p ↦ p ] in
    let before : length bytes - length rest < length bytes = omega (arith, r.left, more) in
    fault_of_rest bytes fs ws rest h r ∙ before_the_end (length bytes) (length bytes - length rest) (whole_words rest) before
    ∙ ap (λ (f : ImageFault). Some f) is

pub image_fails : (bytes : List ℕ) (e : ImageFault) → image_at bytes ≡ Err e → fault_of bytes ≡ Some e
unfolding image_at
image_fails bytes e k =
    let len = length bytes in
    let ws = whole_words bytes in
    let Goal : Type 0 = fault_of bytes ≡ Some e in
    let within : length bytes ≤ len = omega arith in
    elim (bind_err (header_at len bytes) (with_header len) e k) as (λ _. Goal) [
      | inl k ↦
          let more = layout_fields (slice_index ws 4) (drop 5 ws) ++ replicate (slice_index ws 2) code_field in
          fault_found bytes (header_fields (slice_index ws 2) ++ more) e refl
          (fault_before len (header_fields (slice_index ws 2)) more bytes e (header_fails len bytes e within k))
      | inr h ↦
          let a = header_read len bytes h.0.0 h.0.1 within h.1 in
          let inside : length h.0.1 ≤ len = omega (arith, a.0.left) in
          let same = fields_are ws h.0.0 (whole_words h.0.1) a.0.taken in
          let fs = header_fields h.0.0.words in
          let layout = layout_fields h.0.0.functions (whole_words h.0.1) in
          let code = replicate h.0.0.words code_field in
          elim (bind_err (repeat_at (frame_at len) h.0.0.functions h.0.1) (with_frames len h.0.0) e h.2) as (λ _. Goal) [
            | inl k ↦ fault_found bytes (fs ++ rest_fields h.0.0 (whole_words h.0.1)) e same
                (fault_behind len fs (layout ++ code) bytes (header_words h.0.0) h.0.1 e a.0
                (fault_before len layout code h.0.1 e (frames_fail len h.0.0.functions h.0.1 e inside k)))
            | inr f ↦
                let b = frames_read len h.0.0.functions h.0.1 f.0.0 f.0.1 inside f.1 in
                let behind : length f.0.1 ≤ len = omega (arith, inside, b.0.left) in
                elim (bind_err (repeat_at (field_at len code_field) h.0.0.words f.0.1) (with_code len h.0.0 f.0.0) e f.2) as (λ _. Goal) [
                  | inl k ↦ fault_found bytes (fs ++ rest_fields h.0.0 (whole_words h.0.1)) e same
                      (fault_behind len fs (layout ++ code) bytes (header_words h.0.0) h.0.1 e a.0
                      (fault_behind len layout code h.0.1 (flat_map frame_words f.0.0) f.0.1 e b.0 (fields_fail len code_field h.0.0.words f.0.1 e behind k)))
                  | inr c ↦
                      let d = fields_read len code_field h.0.0.words f.0.1 c.0.0 c.0.1 behind c.1 in
                      let all = all_read len bytes h.0.0 h.0.1 f.0.0 f.0.1 c.0.0 c.0.1 a.0 b.0 d.0 in
                      let image = made h.0.0 f.0.0 c.0.0 in
                      let yes : Result Image ImageFault = Ok image in
                      let no : Result Image ImageFault = Err (fault (len - length c.0.1) Extra) in
                      let whole : Result Image ImageFault = Err e in
                      elim (chosen (nat_eq (length c.0.1) 0) yes no whole c.2) as (λ _. Goal) [
                        | inl t ↦ absurd (not_both image e t.1)
                        | inr t ↦ extra bytes (fs ++ rest_fields h.0.0 (whole_words h.0.1)) (header_words h.0.0 ++ (flat_map frame_words f.0.0 ++ c.0.0)) c.0.1 e same all t.0
                            (err_is {A = Image} (fault (len - length c.0.1) Extra) e t.1)
                      ]
                ]
          ]
    ]
