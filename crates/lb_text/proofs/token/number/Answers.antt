use Rattle.lb_text.proofs.Steps.{token_reads}
use Rattle.lb_text.proofs.token.number.Goals as goal

pub returns-clause-found : goal.returns-clause-found
returns-clause-found c = token_reads c.requires (rw c.in-Number.is at c.in_ok-token.ensures.found)
