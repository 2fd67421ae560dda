use Rattle.std.proofs.lemmas.Result.{err_from_is_err_and}
use Rattle.lb_sections.specs.Sections.{seen}
use Rattle.lb_system.proofs.AskLemmas.{events_left}
use Rattle.lb_system.proofs.source.events_of.Goals as goal

pub returns-in_err-read_trace-clause-refused : goal.returns-in_err-read_trace-clause-refused
returns-in_err-read_trace-clause-refused c =
    let p = err_from_is_err_and c.from_residual.result c.from_residual.ensures.1 in
    rw (p.1, p.2) (events_left (seen c.args.section.now) c.in_err-read_trace.field-0.0 c.in_err-read_trace.ensures.refused)
