use Rattle.lb_lines.proofs.LetterLemmas.{among_has, kinds, none_has}
use Rattle.lb_lines.proofs.log.kind.Goals as goal

pub returns-clause-found : goal.returns-clause-found
returns-clause-found c = rw c.kind_among.ensures (among_has c.args.letter kinds)

pub returns-clause-none : goal.returns-clause-none
returns-clause-none c = none_has c.args.letter c.kind_among.result c.kind_among.ensures
