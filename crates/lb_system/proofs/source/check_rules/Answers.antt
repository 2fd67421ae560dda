use Rattle.std.proofs.lemmas.Result.{err_from_is_err_and}
use Rattle.lb_syntax.specs.Tree.{program_of}
use Rattle.lb_system.proofs.RefusalLemmas.{rules_left}
use Rattle.lb_system.proofs.source.check_rules.Goals as goal

pub returns-in_err-check-clause-refused : goal.returns-in_err-check-clause-refused
returns-in_err-check-clause-refused c =
    let p = err_from_is_err_and c.from_residual.result c.from_residual.ensures.1 in
    rw (p.1) (rules_left (program_of c.args.program) c.in_err-check.field-0.0 p.0 p.2 c.in_err-check.ensures.refused)
