use Rattle.std.proofs.lemmas.Result.{err_from_is_err_and}
use Rattle.lb_text.proofs.Functions.{no_results, no_results_fail, results_read, results_fail, body_fails}
use Rattle.lb_text.proofs.Tokens.{braced}
use Rattle.lb_text.proofs.function.results_and_body.Goals as goal

pub returns-in_err-body : goal.returns-in_err-body
returns-in_err-body c =
    let p = err_from_is_err_and c.from_residual-in_err-body.result c.from_residual-in_err-body.ensures.1 in
    let i = braced c.in_ok-token.token c.in_default.not-Arrow c.in_ok-token.ensures.found.taken in
    rw (p.1, p.2) (record { found = tt; fault = no_results_fail c.in_err-body.field-0.0 i c.in_ok-token.ensures.found c.in_err-body.ensures.fault })

pub returns-in_default : goal.returns-in_default
returns-in_default c =
    let i = braced c.in_ok-token.token c.in_default.not-Arrow c.in_ok-token.ensures.found.taken in
    record { found = no_results c.new.result _ c.new.ensures i c.in_ok-token.ensures.found c.in_ok-body.ensures.found; fault = tt }

pub returns-in_err-results-clause-fault : goal.returns-in_err-results-clause-fault
returns-in_err-results-clause-fault c =
    let p = err_from_is_err_and c.from_residual-in_err-results.result c.from_residual-in_err-results.ensures.1 in
    rw (p.1, p.2) (results_fail c.in_err-results.field-0.0 (rw c.in-Arrow.is at c.in_ok-token.ensures.found) c.in_err-results.ensures.fault)

pub returns-in_err-body-2-clause-fault : goal.returns-in_err-body-2-clause-fault
returns-in_err-body-2-clause-fault c =
    let p = err_from_is_err_and c.from_residual-in_err-body-2.result c.from_residual-in_err-body-2.ensures.1 in
    rw (p.1, p.2) (body_fails c.in_err-body-2.field-0.0 (rw c.in-Arrow.is at c.in_ok-token.ensures.found) c.in_ok-results.ensures.found c.in_err-body-2.ensures.fault)

pub returns-clause-found : goal.returns-clause-found
returns-clause-found c = results_read c.in_ok-results.results _ (rw c.in-Arrow.is at c.in_ok-token.ensures.found) c.in_ok-results.ensures.found c.in_ok-body-2.ensures.found
