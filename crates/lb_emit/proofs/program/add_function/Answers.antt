use Rattle.std.proofs.Common.{◌∙◌, ap, arith, length, List, ℕ}
use Rattle.lb_flat.specs.Code.{sites}
use Rattle.lb_flat.specs.Placed.{placed_routine}
use Rattle.lb_emit_laws.specs.Frames as laws
use Rattle.lb_emit_laws.proofs.LayoutLemmas.{length_offsets}
use Rattle.lb_emit_laws.proofs.SavedLemmas.{saved_few}
use Rattle.lb_emit.specs.InternalFrame.{Framed}
use Rattle.lb_emit.proofs.program.add_function.Goals as goal

pub add_function-requires-clause-saved : goal.add_function-requires-clause-saved
add_function-requires-clause-saved c =
    let h = placed_routine c.args.f.now in
    let e = ap (λ (f : laws.Frame). length f.saved) (c.new-emitter.ensures.frame ∙ ap (λ (x : Framed). x.frame) c.requires.framed) in
    omega (arith, e, saved_few h)

pub add_function-requires-clause-blocks : goal.add_function-requires-clause-blocks
add_function-requires-clause-blocks c =
    let h = placed_routine c.args.f.now in
    let e = ap (λ (l : List ℕ). length l) (c.new-emitter.ensures.offsets ∙ ap (λ (x : Framed). x.offsets) c.requires.framed) in
    omega (arith, e, length_offsets (laws.blocks_offset h) (sites h.body))
