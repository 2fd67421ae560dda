-- Reading from left to right, with the first fault that is met. Only private contracts and proofs cite this.
use Rattle.std.specs.Prelude.{◌≡◌, ℕ, zero, suc, ◌+◌, ◌-◌, nat_lt, ◌==◌, if◌then◌else◌, List, [], ◌∷◌, length, take, drop, Result, Ok, Err}
use Rattle.lb_memory.specs.declared.TheConstants.{MOST_STACK}
use Rattle.lb_syntax.specs.declared.layout.FrameLayout.{FrameLayout}
use Rattle.lb_word.specs.Bytes.{word_of_bytes}
use Rattle.lb_image.specs.declared.error.ImageError.{ImageError}
use Rattle.lb_image.specs.declared.error.ImageError.TheVariants as errors
use Rattle.lb_image.specs.declared.error.ImageFault.{ImageFault}
use Rattle.lb_image.specs.declared.error.ImageKind.TheVariants.{Truncated, Extra}
use Rattle.lb_image.specs.declared.field.Field.{Field}
use Rattle.lb_image.specs.declared.image.Image.{Image}
use Rattle.lb_image.specs.declared.reading.Header.{Header}
use Rattle.lb_image.specs.Fields.{is_in, fault, magic_field, version_field, words_field, entry_field, functions_field, size_field, sites_field, site_field, code_field}

-- the most bytes of a function in an image
abbrev pub most_frame_bytes : ℕ
most_frame_bytes = 8 + MOST_STACK

infixl 10 ◌>>=◌
abbrev pub ◌>>=◌ : {A B : Type 0} → Result A ImageFault → (A → Result B ImageFault) → Result B ImageFault
(Ok x) >>= f = f x
(Err e) >>= f = Err e

-- what a function returned, seen by `view`, is what reading gives, unless memory ran out
abbrev pub Fails : {Y : Type 0} → ImageError → Result Y ImageFault → Type 0
Fails errors.Memory read = Unit {0}
Fails (errors.Fault f) read = read ≡ Err f

abbrev pub Gives : {X Y : Type 0} → (X → Y) → Result X ImageError → Result Y ImageFault → Type 0
Gives view (Ok x) read = read ≡ Ok (view x)
Gives view (Err e) read = Fails e read

-- the word of a field, and the bytes behind it; the whole input has `len` bytes
abbrev pub field_at : ℕ → Field → List ℕ → Result (ℕ × List ℕ) ImageFault
field_at len f bytes =
    if nat_lt (length bytes) 4 then Err (fault len Truncated)
    else (if is_in f.range (word_of_bytes (take 4 bytes)) then Ok (word_of_bytes (take 4 bytes), drop 4 bytes) else Err (fault (len - length bytes) f.kind))

-- the same read n times
unfoldable pub repeat_at : {A : Type 0} → (List ℕ → Result (A × List ℕ) ImageFault) → ℕ → List ℕ → Result (List A × List ℕ) ImageFault
repeat_at read zero bytes = Ok ([], bytes)
repeat_at read (suc n) bytes = do
  first ← read bytes
  others ← repeat_at read n first.1
  Ok (first.0 ∷ others.0, others.1)

-- the words of so many fields, and the bytes behind them
abbrev pub fields_at : ℕ → Field → ℕ → List ℕ → Result (List ℕ × List ℕ) ImageFault
fields_at len f count bytes = repeat_at (field_at len f) count bytes

unfoldable pub frame_at : ℕ → List ℕ → Result (FrameLayout × List ℕ) ImageFault
frame_at len bytes = do
  size ← field_at len size_field bytes
  count ← field_at len (sites_field size.0) size.1
  sites ← repeat_at (field_at len (site_field size.0)) count.0 count.1
  Ok (record { size = size.0; sites = sites.0 }, sites.1)

unfoldable pub header_at : ℕ → List ℕ → Result (Header × List ℕ) ImageFault
header_at len bytes = do
  first ← field_at len magic_field bytes
  second ← field_at len version_field first.1
  words ← field_at len words_field second.1
  entry ← field_at len (entry_field words.0) words.1
  functions ← field_at len functions_field entry.1
  Ok (record { words = words.0; entry = entry.0; functions = functions.0 }, functions.1)

unfoldable pub image_at : List ℕ → Result Image ImageFault
image_at bytes = do
  header ← header_at (length bytes) bytes
  frames ← repeat_at (frame_at (length bytes)) header.0.functions header.1
  code ← repeat_at (field_at (length bytes) code_field) header.0.words frames.1
  if length code.1 == 0
      then Ok (record { code = code.0; layout = record { frames = frames.0 }; entry = header.0.entry })
      else Err (fault (length bytes - length code.1) Extra)
