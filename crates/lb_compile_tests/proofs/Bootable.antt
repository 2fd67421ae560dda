-- The code of an image in range can be booted.
use Rattle.lb_image.specs.declared.image.Image.{Image}
use Rattle.lb_image.specs.Images.{IsImage}
use Rattle.lb_isa.specs.Runs.{IsBootable}

pub bootable : (i : Image) → IsImage i → IsBootable i.code i.entry
bootable i h = record { words = h.range.few; aligned = h.range.entry.0; within = h.range.entry.1 }
