use Rattle.std.proofs.Common.{rules}
use Rattle.std.proofs.lemmas.Result.{err_from_is_err_and}
use Rattle.lb_scan.specs.Tokens.{token_of}
use Rattle.lb_scan.proofs.Fronts.{takes_behind}
use Rattle.lb_scan.proofs.Refused.{refused_behind, more_behind}
use Rattle.lb_scan.proofs.scanner.scan_or_end.Goals as goal

pub returns-clause-found : goal.returns-clause-found
returns-clause-found c = takes_behind c.args.expected c.args.depth (token_of c.in_ok-found.found.0) c.args.bytes.now c.skip-start.result.now c.in_ok-found.found.1.now c.skip-start.ensures.skips (search rules) c.in_ok-found.ensures.found

pub returns-in_err-found-clause-refused : goal.returns-in_err-found-clause-refused
returns-in_err-found-clause-refused c =
    let p = err_from_is_err_and c.from_residual.result c.from_residual.ensures.1 in
    rw (p.1) (refused_behind c.args.expected c.args.depth c.args.bytes.now c.skip-start.result.now c.skip-start.ensures.skips c.skip-start.ensures.token (search rules) c.in_err-found.ensures.refused)

pub returns-in_err-found-clause-more : goal.returns-in_err-found-clause-more
returns-in_err-found-clause-more c =
    let p = err_from_is_err_and c.from_residual.result c.from_residual.ensures.1 in
    rw (p.1) (more_behind c.args.bytes.now c.skip-start.result.now c.skip-start.ensures.skips c.skip-start.ensures.token (search rules))
