-- The bytes of an image, and which images are in range.
use Rattle.std.specs.Prelude.{◌≡◌, ℕ, ◌*◌, ◌%◌, ◌<◌, ◌≤◌, List, ◌∷◌, ◌++◌, length, flat_map, All, codes}
use Rattle.lb_memory.specs.declared.TheConstants.{MOST_STACK}
use Rattle.lb_syntax.specs.declared.limits.TheConstants.{MOST_FUNCTIONS, MOST_WORDS}
use Rattle.lb_syntax.specs.declared.layout.FrameLayout.{FrameLayout}
use Rattle.lb_syntax.specs.WellFormed.{IsWord}
use Rattle.lb_word.specs.Bytes.{bytes_of_word, word_of_bytes}
use Rattle.lb_image.specs.declared.image.Image.{Image}

-- the word that an image begins with: its bytes are these four
abbrev pub magic : ℕ
magic = word_of_bytes (codes "LBIM")

-- the version of the format
abbrev pub version : ℕ
version = 1

-- ---- the bytes

-- the words of a function's frame: its size, the number of its sites, and the offset of each
abbrev pub frame_words : FrameLayout → List ℕ
frame_words frame = frame.size ∷ length frame.sites ∷ frame.sites

-- the words of all frames
abbrev pub layout_words : List FrameLayout → List ℕ
layout_words frames = flat_map frame_words frames

-- the words of an image
abbrev pub image_words : Image → List ℕ
image_words i =
    magic ∷ version ∷ length i.code ∷ i.entry ∷ length i.layout.frames ∷ (layout_words i.layout.frames ++ i.code)

-- the bytes of words, those of each with the least significant first
abbrev pub bytes_of_words : List ℕ → List ℕ
bytes_of_words ws = flat_map bytes_of_word ws

-- the bytes of an image
abbrev pub image_bytes : Image → List ℕ
image_bytes i = bytes_of_words (image_words i)

-- ---- the ranges

-- a multiple of 4 below a bound
abbrev pub IsMultipleBelow : ℕ → ℕ → Type 0
IsMultipleBelow bound n = (n % 4 ≡ 0) × (n < bound)

-- a frame whose fields are in their ranges; it has no more bytes than the stack may have
pub record IsFrame (frame : FrameLayout) : Type 0 where
  pub whole : frame.size % 4 ≡ 0
  pub small : frame.size ≤ MOST_STACK
  pub few : 4 * length frame.sites ≤ frame.size
  pub inside : All (IsMultipleBelow frame.size) frame.sites

-- an image whose fields are in their ranges
pub record IsInRange (i : Image) : Type 0 where
  pub some : 1 ≤ length i.code
  pub few : length i.code ≤ MOST_WORDS
  pub entry : IsMultipleBelow (4 * length i.code) i.entry
  pub functions : length i.layout.frames ≤ MOST_FUNCTIONS
  pub frames : All IsFrame i.layout.frames

-- the code's words have 32 bits, and may have any value
pub record IsImage (i : Image) : Type 0 where
  pub range : IsInRange i
  pub words : All IsWord i.code
