use Rattle.std.proofs.lemmas.Result.{err_from_is_err_and}
use Rattle.lb_program_testkit.proofs.TextLemmas.{unread}
use Rattle.lb_program_testkit.proofs.programs.checked_program.Goals as goal

pub returns-in_err-program-clause-refused : goal.returns-in_err-program-clause-refused
returns-in_err-program-clause-refused c =
    let p = err_from_is_err_and c.from_residual.result c.from_residual.ensures.1 in
    rw (p.1, p.2) (λ is. unread c.args.text.now (c.in_err-program.ensures.refused is))
