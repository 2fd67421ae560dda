use Rattle.lb_lines.proofs.LineLemmas.{nothing_read, piece_read, all_read}
use Rattle.lb_lines.proofs.form.read_lines.Goals as goal

pub lines-init : goal.lines-init
lines-init g c = nothing_read g.T.LineForm.form c.args.first_line c.args.text.now c.new-values.result.items c.new-values.ensures.items g.met.T.LineForm.none_is_few

pub returns-in_default-clause-read : goal.returns-in_default-clause-read
returns-in_default-clause-read g c =
    let cut = rw c.in_default.is at c.first_piece.ensures.cut in
    all_read g.T.LineForm.form c.args.first_line c.args.text.now c.lines.number c.lines.rest.now c.first_piece.result.0.now c.lines.values.items
    c.read_line.new.values.items cut c.in_ok-read_line.ensures.read c.lines.invariant

pub lines-preserved : goal.lines-preserved
lines-preserved g c =
    let cut = rw c.in-Some.is at c.first_piece.ensures.cut in
    let shorter = rw c.in-Some.is at c.first_piece.ensures.shorter in
    piece_read g.T.LineForm.form c.args.first_line c.args.text.now c.lines.number c.lines.rest.now c.first_piece.result.0.now c.in-Some.behind.now
    c.lines.values.items c.read_line.new.values.items cut shorter c.in_ok-read_line.ensures.read c.lines.invariant
