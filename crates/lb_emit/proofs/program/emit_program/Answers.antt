use Rattle.std.proofs.Common.{ap, sym, subst, ◌∙◌, List, map, length}
use Rattle.std.proofs.lemmas.List.{length-map}
use Rattle.std.specs.Prelude.{All}
use Rattle.lb_rv.specs.Table.{IsInRange}
use Rattle.lb_syntax.specs.declared.layout.Layout.{Layout}
use Rattle.lb_syntax.specs.declared.layout.FrameLayout.{FrameLayout}
use Rattle.lb_flat.specs.declared.placed.PlacedFunction.{PlacedFunction}
use Rattle.lb_flat.specs.Placed.{placed_executable, placed_routine}
use Rattle.lb_emit_laws.proofs.TheoremLemmas.{program_code_is_in_range}
use Rattle.lb_emit.specs.InternalFrame.{framed_in, framed_of}
use Rattle.lb_emit.specs.InternalProgram.{AreReady}
use Rattle.lb_emit.proofs.FunctionLemmas.{layouts_are}
use Rattle.lb_emit.proofs.OrderLemmas.{all_ready}
use Rattle.lb_emit.proofs.program.emit_program.Goals as goal

pub frames_of-requires : goal.frames_of-requires
frames_of-requires c =
    let p = placed_executable c.args.program.now in
    subst (λ (l : List PlacedFunction). AreReady (length l) (map placed_routine l)) (sym c.as_slice.ensures)
    (subst (λ n. AreReady n p.routines) (length-map c.args.program.now.functions placed_routine) (all_ready p c.requires.in_order))

pub words_of-requires : goal.words_of-requires
words_of-requires c =
    subst (All IsInRange) (sym (c.as_slice-3.ensures ∙ c.in_ok-code.ensures)) (program_code_is_in_range (placed_executable c.args.program.now) c.requires.in_order)

pub returns-clause-layout : goal.returns-clause-layout
returns-clause-layout c =
    let p = placed_executable c.args.program.now in
    let framed = ap (map framed_in) c.as_slice-4.ensures ∙ c.in_ok-frames.ensures ∙ ap (λ (l : List PlacedFunction). map framed_of (map placed_routine l)) c.as_slice.ensures in
    let made : List FrameLayout → Layout = λ l. record { frames = l } in
    c.in_ok-layout_of.ensures ∙ ap made (layouts_are c.as_slice-4.result.now p.routines framed)
