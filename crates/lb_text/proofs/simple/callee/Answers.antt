use Rattle.lb_text.proofs.Tokens.{named_is_name}
use Rattle.lb_text.proofs.Steps.{token_reads}
use Rattle.lb_text.proofs.simple.callee.Goals as goal

pub of_spelling-requires : goal.of_spelling-requires
of_spelling-requires c = let p = rw c.in-Name.is at c.in_ok-token.ensures.found in named_is_name _ _ _ p.stands

pub returns-in_ok-of_spelling-in-Name-clause-found : goal.returns-in_ok-of_spelling-in-Name-clause-found
returns-in_ok-of_spelling-in-Name-clause-found c = rw c.in_ok-of_spelling-in-Name.ensures (token_reads c.requires (rw c.in-Name.is at c.in_ok-token.ensures.found))

pub returns-in-Device-clause-found : goal.returns-in-Device-clause-found
returns-in-Device-clause-found c = token_reads c.requires (rw c.in-Device.is at c.in_ok-token.ensures.found)
