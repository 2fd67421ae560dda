-- The image of a program can be booted.
use Rattle.std.specs.Prelude.{List}
use Rattle.lb_syntax.specs.Tree.{Procedure}
use Rattle.lb_image.specs.declared.image.Image.{Image}
use Rattle.lb_isa.specs.Runs.{IsBootable}
use Rattle.lb_correctness.specs.Images.{IsCompiled}

pub bootable : (p : List Procedure) (i : Image) → IsCompiled p i → IsBootable i.code i.entry
bootable p i h = let range = h.keeps.image.range in record { words = range.few; aligned = range.entry.0; within = range.entry.1 }
