-- The bytes of parts of an image. Only private contracts cite this.
use Rattle.std.specs.Prelude.{ℕ, List}
use Rattle.lb_syntax.specs.declared.layout.FrameLayout.{FrameLayout}
use Rattle.lb_image.specs.Images.{bytes_of_words, frame_words, layout_words}

-- the bytes of a function's frame
abbrev pub frame_bytes : FrameLayout → List ℕ
frame_bytes frame = bytes_of_words (frame_words frame)

-- the bytes of all frames
abbrev pub layout_bytes : List FrameLayout → List ℕ
layout_bytes frames = bytes_of_words (layout_words frames)
