use Rattle.lb_text.proofs.Signs.{sign_reads}
use Rattle.lb_text.proofs.token.sign.Goals as goal

pub returns-clause-found : goal.returns-clause-found
returns-clause-found c = sign_reads _ _ _ _ _ c.requires.depth c.requires.sign c.in_ok-rest.ensures.found
