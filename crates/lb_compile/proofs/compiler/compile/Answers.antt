use Rattle.std.proofs.Common.{sym, subst}
use Rattle.lb_syntax.specs.Tree.{program_of}
use Rattle.lb_image.specs.declared.image.Image.{Image}
use Rattle.lb_flat.specs.Flat.{flat_executable}
use Rattle.lb_flat.specs.Located.{lists_of}
use Rattle.lb_flat.specs.Placed.{placed_executable}
use Rattle.lb_compile.specs.Correct.{Keeps, IsLean}
use Rattle.lb_compile.proofs.Composition.{keeps, lean}
use Rattle.lb_compile.proofs.compiler.compile.Goals as goal

pub returns-clause-keeps : goal.returns-clause-keeps
returns-clause-keeps c =
    let p = program_of c.args.program.now in
    let flat = c.in_ok-flat in
    let placed = c.in_ok-placed in
    let emitted = c.in_ok-emitted in
    let image : Image = record { code = emitted.emitted.code.items; layout = emitted.emitted.layout; entry = emitted.emitted.entry } in
    subst (λ (i : Image). Keeps p i) (sym c.image_of.ensures)
    (keeps p (flat_executable flat.flat) (placed_executable placed.placed) image
    flat.ensures.keeps flat.ensures.asks_no_more flat.ensures.words placed.ensures.keeps placed.ensures.asks_no_more emitted.ensures.code)

pub returns-clause-lean : goal.returns-clause-lean
returns-clause-lean c =
    let p = program_of c.args.program.now in
    let flat = c.in_ok-flat in
    let places = c.in_ok-places in
    let placed = c.in_ok-placed in
    let emitted = c.in_ok-emitted in
    let image : Image = record { code = emitted.emitted.code.items; layout = emitted.emitted.layout; entry = emitted.emitted.entry } in
    subst (λ (i : Image). IsLean p i) (sym c.image_of.ensures)
    (lean p (flat_executable flat.flat) (lists_of places.places) (placed_executable placed.placed) image
    flat.ensures.variables flat.ensures.accesses places.ensures.accepted places.ensures.registers placed.ensures.lean emitted.ensures.code)
