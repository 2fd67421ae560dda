-- What it says of bytes that an image was read from them, or none. Want of memory says nothing of them.
use Rattle.std.specs.Prelude.{◌≡◌, ℕ, List, Some, Result, Ok, Err}
use Rattle.lb_image.specs.declared.error.ImageError.{ImageError}
use Rattle.lb_image.specs.declared.error.ImageError.TheVariants as errors
use Rattle.lb_image.specs.declared.image.Image.{Image}
use Rattle.lb_image.specs.Images.{image_bytes, IsImage}
use Rattle.lb_image.specs.Fields.{fault_of}

-- the fault is the first of the bytes
abbrev pub FaultOf : ImageError → List ℕ → Type 0
FaultOf errors.Memory bytes = Unit {0}
FaultOf (errors.Fault f) bytes = fault_of bytes ≡ Some f

-- this image was read, unless memory ran out
abbrev pub IsReadAs : Image → Result Image ImageError → Type 0
IsReadAs i (Ok image) = image ≡ i
IsReadAs i (Err errors.Memory) = Unit {0}
IsReadAs i (Err (errors.Fault f)) = ⊥

-- if the bytes are an image's, that image was read
abbrev pub IsOnlyImage : List ℕ → Result Image ImageError → Type 0
IsOnlyImage bytes read = (i : Image) → IsImage i → bytes ≡ image_bytes i → IsReadAs i read
