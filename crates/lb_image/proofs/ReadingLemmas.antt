-- What a reader that gives what reading gives says of the bytes; and laws of the definitions.
use Rattle.std.proofs.Common.{◌≡◌, ℕ, ◌<◌, List, Option, Some, None, Result, Ok, Err, refl, sym, ap, ◌∙◌, get_or, length, ◌↔◌, ◌⊎◌, inl, inr, arith, IfOk, IfErr}
use Rattle.std.specs.List.{flat_map, All}
use Rattle.std.proofs.lemmas.Bool.{cases_lt}
use Rattle.std.proofs.lemmas.List.{get_or_past}
use Rattle.lb_word.specs.Bytes.{bytes_of_word}
use Rattle.lb_image.specs.declared.error.ImageError.{ImageError}
use Rattle.lb_image.specs.declared.error.ImageError.TheVariants as errors
use Rattle.lb_image.specs.declared.error.ImageFault.{ImageFault}
use Rattle.lb_image.specs.declared.image.Image.{Image}
use Rattle.lb_image.specs.Images.{image_bytes, IsImage}
use Rattle.lb_image.specs.Fields.{fault_of}
use Rattle.lb_image.specs.Refusal.{FaultOf, IsOnlyImage}
use Rattle.lb_image.specs.InternalReading.{Gives, image_at}
use Rattle.lb_image.proofs.WordLemmas.{bytes_of_whole_words}
use Rattle.lb_image.proofs.ResultLemmas.{ok_is, not_both}
use Rattle.lb_image.proofs.ImageLemmas.{IsFound, image_found, image_fails}
use Rattle.lb_image.proofs.AgainLemmas.{image_again}

bytes_are : (bytes : List ℕ) (i : Image) → ((k : ℕ) → get_or bytes k 0 < 256) → IsFound bytes i → bytes ≡ image_bytes i
bytes_are bytes i fits f = bytes_of_whole_words bytes fits f.whole ∙ ap (λ (ws : List ℕ). flat_map bytes_of_word ws) f.words

pub is_found : (bytes : List ℕ) (read : Result Image ImageError) → ((k : ℕ) → get_or bytes k 0 < 256) → Gives (λ (i : Image). i) read (image_at bytes)
    → IfOk read (λ image. IsImage image × (bytes ≡ image_bytes image))
is_found bytes (Ok i) fits h = let f = image_found bytes i h in (f.image, bytes_are bytes i fits f)
is_found bytes (Err e) fits h = tt

pub is_fault : (bytes : List ℕ) (read : Result Image ImageError) → Gives (λ (i : Image). i) read (image_at bytes) → IfErr read (λ e. FaultOf e bytes)
is_fault bytes (Ok i) h = tt
is_fault bytes (Err errors.Memory) h = tt
is_fault bytes (Err (errors.Fault f)) h = image_fails bytes f h

pub is_only : (bytes : List ℕ) (read : Result Image ImageError) → Gives (λ (i : Image). i) read (image_at bytes) → IsOnlyImage bytes read
is_only bytes (Ok j) h i is e = ok_is j i (sym h ∙ ap image_at e ∙ image_again i is)
is_only bytes (Err errors.Memory) h i is e = tt
is_only bytes (Err (errors.Fault f)) h i is e = not_both i f (sym (image_again i is) ∙ sym (ap image_at e) ∙ h)

-- ---- laws

pub one_spelling : (i j : Image) → IsImage i → IsImage j → image_bytes i ≡ image_bytes j → i ≡ j
one_spelling i j is js e = ok_is i j (sym (image_again i is) ∙ ap image_at e ∙ image_again j js)

image_or_fault : (bytes : List ℕ) (read : Result Image ImageFault) → image_at bytes ≡ read → ((i : Image) × IsFound bytes i) ⊎ ((f : ImageFault) × (fault_of bytes ≡ Some f))
image_or_fault bytes (Ok i) h = inl (i, image_found bytes i h)
image_or_fault bytes (Err f) h = inr (f, image_fails bytes f h)

none_is_no_fault : (bytes : List ℕ) (f : ImageFault) → fault_of bytes ≡ None → fault_of bytes ≡ Some f → ⊥
none_is_no_fault bytes f p q = let e : ◌≡◌ {A = Option ImageFault} None (Some f) = sym p ∙ q in cc

bytes_fit : (bytes : List ℕ) → All (λ b. b < 256) bytes → (k : ℕ) → get_or bytes k 0 < 256
bytes_fit bytes h k =
    elim (cases_lt k (length bytes)) [
      | inl below ↦ h k 0 below
      | inr past ↦ rw (get_or_past bytes k 0 past) (omega arith)
    ]

pub fault_or_image : (bytes : List ℕ) → All (λ b. b < 256) bytes → (fault_of bytes ≡ None) ↔ ((i : Image) × IsImage i × (bytes ≡ image_bytes i))
fault_or_image bytes fits =
    let Found : Type 0 = (i : Image) × IsImage i × (bytes ≡ image_bytes i) in (
      λ none. elim (image_or_fault bytes (image_at bytes) refl) as (λ _. Found) [
        | inl p ↦ (p.0, p.1.image, bytes_are bytes p.0 (bytes_fit bytes fits) p.1)
        | inr p ↦ absurd (none_is_no_fault bytes p.0 none p.1)
      ],
      λ found. (image_found bytes found.0 (ap image_at found.2 ∙ image_again found.0 found.1)).faultless,
    )
