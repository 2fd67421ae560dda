use Rattle.lb_alloc.proofs.AcceptLemmas.{yes_keeps, yes_across}
use Rattle.lb_alloc.proofs.judgement.accepts.Goals as goal

pub returns-clause-keeps : goal.returns-clause-keeps
returns-clause-keeps c = yes_keeps c.args.flat.now c.args.places.now c.accepts_functions.result c.accepts_functions.ensures

pub returns-clause-across : goal.returns-clause-across
returns-clause-across c = yes_across c.args.flat.now c.args.places.now c.accepts_functions.result c.accepts_functions.ensures
