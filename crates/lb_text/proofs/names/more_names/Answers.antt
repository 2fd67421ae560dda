use Rattle.std.proofs.Common.{arith}
use Rattle.std.proofs.lemmas.Result.{err_from_is_err_and}
use Rattle.lb_spelling.proofs.TextRuns.{token_less}
use Rattle.lb_text.proofs.Lists.{names_end, one_more_name, comma_goes}
use Rattle.lb_text.proofs.Steps.{fails_at}
use Rattle.lb_text.proofs.Tokens.{not_comma}
use Rattle.lb_text.proofs.names.more_names.Goals as goal

pub returns-in_default : goal.returns-in_default
returns-in_default c = record { found = names_end c.requires.more c.loop-names.invariant (not_comma c.in_ok-token.token c.in_default.not-Comma) c.in_ok-token.ensures.found; fault = tt }

pub returns-in_err-next-clause-fault : goal.returns-in_err-next-clause-fault
returns-in_err-next-clause-fault c =
    let p = err_from_is_err_and c.from_residual-in_err-next.result c.from_residual-in_err-next.ensures.1 in
    rw (p.1, p.2) (fails_at c.in_err-next.field-0.0 (comma_goes c.requires.more c.loop-names.invariant.so_far.goes (rw c.in-Comma.is at c.in_ok-token.ensures.found)) c.in_err-next.ensures.fault)

pub loop-names-smaller : goal.loop-names-smaller
loop-names-smaller c = let h = token_less _ _ _ c.in_ok-token.ensures.found.stands in omega (arith, h, c.in_ok-next.ensures.found.goes.shorter)

pub loop-names-preserved : goal.loop-names-preserved
loop-names-preserved c = one_more_name c.in_ok-next.next _ c.requires.more c.loop-names.invariant (rw c.in-Comma.is at c.in_ok-token.ensures.found) c.in_ok-next.ensures.found c.in_ok-push.ensures.ok
