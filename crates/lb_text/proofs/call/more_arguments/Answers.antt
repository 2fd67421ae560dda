use Rattle.std.proofs.Common.{◌≡◌, ◌∷◌, [], ◌++◌, arith}
use Rattle.std.specs.Prelude.{map}
use Rattle.std.proofs.lemmas.Result.{err_from_is_err_and}
use Rattle.std.proofs.lemmas.List.{map_push}
use Rattle.lb_syntax.specs.Tree.{term_of}
use Rattle.lb_spelling.proofs.TextRuns.{token_less}
use Rattle.lb_text.proofs.Lists.{arguments_end, argument_goes, one_more_argument}
use Rattle.lb_text.proofs.Steps.{fails_at}
use Rattle.lb_text.proofs.Tokens.{not_close_paren}
use Rattle.lb_text.proofs.call.more_arguments.Goals as goal

pub returns-in-CloseParen-clause-found : goal.returns-in-CloseParen-clause-found
returns-in-CloseParen-clause-found c = arguments_end (term_of c.args.first) c.loop-arguments.invariant (rw c.in-CloseParen.is at c.in_ok-token.ensures.found)

pub returns-in_err-argument : goal.returns-in_err-argument
returns-in_err-argument c =
    let p = err_from_is_err_and c.from_residual-in_err-argument.result c.from_residual-in_err-argument.ensures.1 in
    rw (p.1, p.2) (record {
      found = tt;
      fault = fails_at c.in_err-argument.field-0.0 (argument_goes c.loop-arguments.invariant.goes (not_close_paren c.in_ok-token.token c.in_default.not-CloseParen) c.in_ok-token.ensures.found) c.in_err-argument.ensures.fault;
    })

pub loop-arguments-smaller : goal.loop-arguments-smaller
loop-arguments-smaller c = let h = token_less _ _ _ c.in_ok-token.ensures.found.stands in omega (arith, h, c.in_ok-argument.ensures.found.goes.shorter)

pub loop-arguments-preserved : goal.loop-arguments-preserved
loop-arguments-preserved c =
    let argument = c.in_ok-argument.argument in
    let pushed : map term_of c.push-in-loop-arguments.new.self ≡ map term_of c.loop-arguments.arguments ++ term_of argument ∷ [] = rw c.in_ok-push-2.ensures.ok (map_push term_of c.loop-arguments.arguments argument) in
    rw pushed (one_more_argument (term_of c.args.first) (term_of argument) c.loop-arguments.invariant (not_close_paren c.in_ok-token.token c.in_default.not-CloseParen) c.in_ok-token.ensures.found c.in_ok-argument.ensures.found)
