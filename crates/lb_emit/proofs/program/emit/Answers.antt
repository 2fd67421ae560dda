use Rattle.std.proofs.Common.{sym, subst}
use Rattle.lb_flat.specs.Placed.{placed_executable}
use Rattle.lb_emit_laws.specs.Frames.{layout_of}
use Rattle.lb_emit_laws.specs.Code.{program_words}
use Rattle.lb_emit_laws.specs.Correct.{IsCodeOf}
use Rattle.lb_emit_laws.proofs.TheoremLemmas.{program_words_are_code}
use Rattle.lb_emit.proofs.program.emit.Goals as goal

-- the code, the layout and the entry are those that keep all promises
pub returns : goal.returns
returns c =
    let p = placed_executable c.args.program.now in
    let e = c.in_ok-emitted.emitted in
    let made = c.in_ok-emitted.ensures in
    let entry = subst (λ n. IsCodeOf p (program_words p) (layout_of p) n) (sym made.entry) (program_words_are_code p c.requires.in_order) in
    let layout = subst (λ l. IsCodeOf p (program_words p) l e.entry) (sym made.layout) entry in
    record { code = subst (λ words. IsCodeOf p words e.layout e.entry) (sym made.code) layout }
