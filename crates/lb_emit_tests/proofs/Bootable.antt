-- Code with which a program keeps its promises can be run from boot.
use Rattle.std.proofs.Common.{ℕ, List, arith}
use Rattle.lb_syntax.specs.declared.layout.Layout.{Layout}
use Rattle.lb_isa.specs.Runs.{IsBootable}
use Rattle.lb_flat.specs.declared.places.Place.{Place}
use Rattle.lb_flat.specs.Code.{Executable}
use Rattle.lb_emit_laws.specs.Correct.{IsCodeOf}

pub bootable : (p : Executable Place) (code : List ℕ) (layout : Layout) (entry : ℕ) → IsCodeOf p code layout entry → IsBootable code entry
bootable p code layout entry h =
    let range = h.image.range in
    record { words = omega (arith, range.few); aligned = range.entry.0; within = range.entry.1 }
