use Rattle.std.proofs.lemmas.Result.{err_from_is_err_and}
use Rattle.lb_sections.specs.Sections.{seen}
use Rattle.lb_system.proofs.AskLemmas.{log_left}
use Rattle.lb_system.proofs.source.log_of.Goals as goal

pub returns-in_err-read_log-clause-refused : goal.returns-in_err-read_log-clause-refused
returns-in_err-read_log-clause-refused c =
    let p = err_from_is_err_and c.from_residual.result c.from_residual.ensures.1 in
    rw (p.1, p.2) (log_left (seen c.args.section.now) c.in_err-read_log.field-0.0 c.in_err-read_log.ensures.refused)
