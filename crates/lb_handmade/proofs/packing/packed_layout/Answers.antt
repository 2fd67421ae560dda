use Rattle.std.proofs.Common.{List, map, sym, ap, ◌∙◌, subst}
use Rattle.lb_syntax.specs.Tree.{procedure_of, program_of}
use Rattle.lb_syntax.specs.Layouts.{AreFramesOf}
use Rattle.lb_syntax.specs.declared.layout.FrameLayout.{FrameLayout}
use Rattle.lb_syntax.specs.declared.tree.Function.{Function}
use Rattle.lb_syntax.specs.declared.tree.Program.{Program}
use Rattle.lb_handmade.specs.Packed.{packed_frames}
use Rattle.lb_handmade.proofs.PackedLemmas.{packed_frames_fit}
use Rattle.lb_handmade.proofs.packing.packed_layout.Goals as goal

pub returns-clause-valid : goal.returns-clause-valid
returns-clause-valid c =
    let p = program_of c.args.program.now in
    let packed = c.in_ok-frames.ensures
    ∙ ap (λ (fs : List Function). packed_frames (map procedure_of fs)) c.as_slice.ensures
    ∙ ap (λ (tree : Program). packed_frames (program_of tree)) c.program.ensures.program in
    subst (λ (frames : List FrameLayout). AreFramesOf frames p) (sym packed) (packed_frames_fit p c.program.ensures.rules)
