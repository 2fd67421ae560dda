-- Laws of the definitions on images.
use Rattle.std.specs.Prelude.{◌≡◌, ℕ, ◌<◌, ◌↔◌, List, None, All}
use Rattle.lb_image.specs.declared.image.Image.{Image}
use Rattle.lb_image.specs.Images.{image_bytes, IsImage}
use Rattle.lb_image.specs.Fields.{fault_of}

-- images in range that have the same bytes are the same
abbrev pub OneSpelling : Type 0
OneSpelling = (i j : Image) → IsImage i → IsImage j → image_bytes i ≡ image_bytes j → i ≡ j

-- bytes have no fault exactly where they are those of an image in range
abbrev pub FaultOrImage : Type 0
FaultOrImage =
    (bytes : List ℕ) → All (λ b. b < 256) bytes → (fault_of bytes ≡ None) ↔ ((i : Image) × IsImage i × (bytes ≡ image_bytes i))
