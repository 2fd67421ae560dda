use Rattle.std.proofs.Common.{sym}
use Rattle.std.proofs.lemmas.List.{take_rest}
use Rattle.lb_lines.proofs.CutLemmas.{first_of_some, first_of_none}
use Rattle.lb_lines.proofs.form.first_piece.Goals as goal

pub returns-in-Some-clause-cut : goal.returns-in-Some-clause-cut
returns-in-Some-clause-cut c =
    rw (c.without_return.ensures, take_rest) (first_of_some c.args.text.now c.in-Some.end (sym c.in-Some.ensures))

pub returns-in-None-clause-cut : goal.returns-in-None-clause-cut
returns-in-None-clause-cut c = rw c.without_return-in-None.ensures (first_of_none c.args.text.now (sym c.in-None.ensures))
