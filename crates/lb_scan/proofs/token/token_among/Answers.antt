use Rattle.std.proofs.Common.{◌∙◌, ap}
use Rattle.lb_spelling.specs.Tokens as tokens
use Rattle.lb_scan.specs.Tokens.{token_of_option}
use Rattle.lb_scan.proofs.Tables.{find_tokens}
use Rattle.lb_scan.proofs.token.token_among.Goals as goal

pub returns : goal.returns
returns c = ap token_of_option c.first_spelled.ensures ∙ find_tokens (λ t. tokens.same (tokens.spelling t) c.args.bytes.now) c.args.table.now
