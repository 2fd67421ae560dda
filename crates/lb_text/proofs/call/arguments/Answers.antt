use Rattle.std.specs.Prelude.{map}
use Rattle.lb_syntax.specs.Tree.{term_of}
use Rattle.std.proofs.lemmas.Result.{err_from_is_err_and, IfOk-weaker, IfErr-weaker}
use Rattle.lb_text.proofs.Lists.{no_arguments, arguments_read, arguments_fail_first, arguments_fail_more}
use Rattle.lb_text.proofs.Tokens.{not_close_paren}
use Rattle.lb_text.proofs.call.arguments.Goals as goal

pub returns-in-CloseParen-clause-found : goal.returns-in-CloseParen-clause-found
returns-in-CloseParen-clause-found c = rw c.new.ensures (no_arguments c.requires (rw c.in-CloseParen.is at c.in_ok-token.ensures.found))

pub returns-in_err-first : goal.returns-in_err-first
returns-in_err-first c =
    let p = err_from_is_err_and c.from_residual-in_err-first.result c.from_residual-in_err-first.ensures.1 in
    rw (p.1, p.2) (record {
      found = tt;
      fault = arguments_fail_first c.in_err-first.field-0.0 c.requires (not_close_paren c.in_ok-token.token c.in_default.not-CloseParen) c.in_ok-token.ensures.found c.in_err-first.ensures.fault;
    })

pub returns : goal.returns
returns c = record {
  found = IfOk-weaker c.more_arguments.result _ _ (λ r p. arguments_read (term_of c.in_ok-first.first) (map term_of r.0) c.requires (not_close_paren c.in_ok-token.token c.in_default.not-CloseParen) c.in_ok-token.ensures.found c.in_ok-first.ensures.found p) c.more_arguments.ensures.found;
  fault = IfErr-weaker c.more_arguments.result _ _ (λ e p. arguments_fail_more (term_of c.in_ok-first.first) e c.requires (not_close_paren c.in_ok-token.token c.in_default.not-CloseParen) c.in_ok-token.ensures.found c.in_ok-first.ensures.found p) c.more_arguments.ensures.fault;
}
