use Rattle.std.proofs.Common.{ℕ, ◌++◌, List, append_assoc, get_or, take, sym, ap, ◌∙◌}
use Rattle.lb_system.specs.Report.{code_line, code_lines}
use Rattle.lb_system.proofs.ReportLemmas.{next_line}
use Rattle.lb_system.proofs.report.append_code.Goals as goal

pub loop-place-preserved : goal.loop-place-preserved
loop-place-preserved c =
    let text : List ℕ = c.args.text.now.items in
    let done : List ℕ = code_lines (take c.loop-place.place c.args.words.now) in
    let line : List ℕ = code_line (c.loop-place.place, get_or c.args.words.now c.loop-place.place 0) in
    c.in_ok-append_line.ensures ∙ ap (λ t. t ++ line) c.loop-place.invariant ∙ append_assoc text done line
    ∙ ap (λ t. text ++ t) (sym (next_line c.args.words.now c.loop-place.place 0 c.loop-place-test.true))
