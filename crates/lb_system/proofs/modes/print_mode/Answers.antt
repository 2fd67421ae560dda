use Rattle.std.proofs.Common.{[]}
use Rattle.std.proofs.lemmas.Result.{err_from_is_err_and}
use Rattle.lb_syntax.specs.Tree.{program_of}
use Rattle.lb_system.proofs.AskLemmas.{print_made}
use Rattle.lb_system.proofs.modes.print_mode.Goals as goal

pub returns-in_err-program-clause-refused : goal.returns-in_err-program-clause-refused
returns-in_err-program-clause-refused c =
    let p = err_from_is_err_and c.from_residual.result c.from_residual.ensures.1 in
    rw (p.1, p.2) (c.in_err-program.ensures.refused c.args.job.now [])

pub returns-clause-made : goal.returns-clause-made
returns-clause-made c =
    print_made c.args.job.now c.args.input.now (program_of c.in_ok-program.program) c.in_ok-report.report.items c.of_report.result c.in_ok-program.ensures.opened c.in_ok-report.ensures.printed c.of_report.ensures
