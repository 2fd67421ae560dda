use Rattle.lb_text.proofs.Tokens.{named_is_name}
use Rattle.lb_text.proofs.Steps.{token_reads}
use Rattle.lb_text.proofs.names.name.Goals as goal

pub of_spelling-requires : goal.of_spelling-requires
of_spelling-requires c = let p = rw c.in-Name.is at c.in_ok-token.ensures.found in named_is_name _ _ _ p.stands

pub returns-clause-found : goal.returns-clause-found
returns-clause-found c = rw c.in_ok-of_spelling.ensures (token_reads c.requires (rw c.in-Name.is at c.in_ok-token.ensures.found))
