-- Why bytes are no image's: the fields that they are to be, and the first of them that is wrong.
use Rattle.std.specs.Prelude.{ℕ, zero, suc, ◌+◌, ◌-◌, ◌*◌, ◌/◌, ◌%◌, ◌^◌, nat_lt, nat_le, ◌==◌, ◌&&◌, Bool, if◌then◌else◌, List, [], ◌∷◌, ◌++◌, length, drop, replicate, slice_index, Option, Some, None}
use Rattle.lb_memory.specs.declared.TheConstants.{MOST_STACK}
use Rattle.lb_syntax.specs.declared.limits.TheConstants.{MOST_FUNCTIONS, MOST_WORDS}
use Rattle.lb_word.specs.Bytes.{word_of_bytes}
use Rattle.lb_image.specs.declared.error.ImageFault.{ImageFault}
use Rattle.lb_image.specs.declared.error.ImageKind.{ImageKind}
use Rattle.lb_image.specs.declared.error.ImageKind.TheVariants.{BadMagic, BadVersion, BadCode, BadLayout, Truncated, Extra}
use Rattle.lb_image.specs.declared.field.Field.{Field}
use Rattle.lb_image.specs.declared.field.FieldRange.{FieldRange}
use Rattle.lb_image.specs.declared.field.FieldRange.TheVariants.{Numbers, Multiples}
use Rattle.lb_image.specs.Images.{magic, version}

-- ---- a field: a word with its range, and the kind of the fault of a value outside it

abbrev pub is_in : FieldRange → ℕ → Bool
is_in (Numbers least most) w = nat_le least w && nat_le w most
is_in (Multiples below) w = w % 4 == 0 && nat_lt w below

-- the numbers from the least to the most
abbrev pub numbers : ImageKind → ℕ → ℕ → Field
numbers kind least most = record { kind = kind; range = Numbers least most }

-- the multiples of 4 below a bound
abbrev pub multiples : ImageKind → ℕ → Field
multiples kind below = record { kind = kind; range = Multiples below }

-- ---- the fields of an image, in order

abbrev pub magic_field : Field
magic_field = numbers BadMagic magic magic

abbrev pub version_field : Field
version_field = numbers BadVersion version version

-- the number of code words
abbrev pub words_field : Field
words_field = numbers BadCode 1 MOST_WORDS

-- the entry, where the code has this many words
abbrev pub entry_field : ℕ → Field
entry_field words = multiples BadCode (4 * words)

-- the number of functions
abbrev pub functions_field : Field
functions_field = numbers BadLayout 0 MOST_FUNCTIONS

-- the size of a frame
abbrev pub size_field : Field
size_field = multiples BadLayout (MOST_STACK + 1)

-- the number of sites of a frame of this size
abbrev pub sites_field : ℕ → Field
sites_field size = numbers BadLayout 0 (size / 4)

-- the offset of a site in a frame of this size
abbrev pub site_field : ℕ → Field
site_field size = multiples BadLayout size

-- a word of the code: any
abbrev pub code_field : Field
code_field = numbers BadCode 0 (2 ^ 32 - 1)

-- a function with a frame of this size and this many sites
abbrev pub frame_fields : ℕ → ℕ → List Field
frame_fields size sites = size_field ∷ sites_field size ∷ replicate sites (site_field size)

-- this many functions, where these words stand from the first of them on; a word that isn't there counts as 0
unfoldable pub layout_fields : ℕ → List ℕ → List Field
layout_fields zero ws = []
layout_fields (suc n) ws =
    frame_fields (slice_index ws 0) (slice_index ws 1) ++ layout_fields n (drop (2 + slice_index ws 1) ws)

-- all that these words are to be
abbrev pub fields : List ℕ → List Field
fields ws =
    magic_field ∷ version_field ∷ words_field ∷ entry_field (slice_index ws 2) ∷ functions_field
    ∷ (layout_fields (slice_index ws 4) (drop 5 ws) ++ replicate (slice_index ws 2) code_field)

-- ---- the first fault

abbrev pub fault : ℕ → ImageKind → ImageFault
fault at kind = record { at = at; kind = kind }

-- the words that are wholly there
abbrev pub whole_words : List ℕ → List ℕ
whole_words (p ∷ q ∷ r ∷ s ∷ bytes) = word_of_bytes (p ∷ q ∷ r ∷ s ∷ []) ∷ whole_words bytes
whole_words _ = []

-- These words, the first of them at a place, beside the fields that they are to be: the first field without a word, or with
-- one out of its range. Where there is none, it is the first byte behind the last field, if `len` bytes are more.
unfoldable pub first_fault : ℕ → ℕ → List Field → List ℕ → Option ImageFault
first_fault len at [] ws = if nat_lt at len then Some (fault at Extra) else None
first_fault len at (f ∷ fs) [] = Some (fault len Truncated)
first_fault len at (f ∷ fs) (w ∷ ws) = if is_in f.range w then first_fault len (at + 4) fs ws else Some (fault at f.kind)

-- the first fault of bytes, if they have one
abbrev pub fault_of : List ℕ → Option ImageFault
fault_of bytes = first_fault (length bytes) 0 (fields (whole_words bytes)) (whole_words bytes)
