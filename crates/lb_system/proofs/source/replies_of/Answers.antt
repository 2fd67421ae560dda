use Rattle.std.proofs.lemmas.Result.{err_from_is_err_and}
use Rattle.lb_sections.specs.Sections.{seen}
use Rattle.lb_system.proofs.AskLemmas.{replies_left}
use Rattle.lb_system.proofs.source.replies_of.Goals as goal

pub returns-in_err-read_replies-clause-refused : goal.returns-in_err-read_replies-clause-refused
returns-in_err-read_replies-clause-refused c =
    let p = err_from_is_err_and c.from_residual.result c.from_residual.ensures.1 in
    rw (p.1, p.2) (replies_left (seen c.args.section.now) c.in_err-read_replies.field-0.0 c.in_err-read_replies.ensures.refused)
