use Rattle.lb_lines.proofs.AccessLemmas.{no_read, no_write}
use Rattle.lb_lines.proofs.trace.event.Goals as goal

pub returns-in_err-addr-clause-none : goal.returns-in_err-addr-clause-none
returns-in_err-addr-clause-none c =
    rw c.from_residual.ensures (no_read c.args.line.now c.in-Some.rest.now c.in-Some.ensures.found c.in_err-addr.ensures.none)

pub returns-in_err-addr-2-clause-none : goal.returns-in_err-addr-2-clause-none
returns-in_err-addr-2-clause-none c =
    rw c.from_residual-in_err-addr-2.ensures (no_write c.args.line.now c.in_ok-after.field-0.now c.in_ok-after.ensures.found c.in_err-addr-2.ensures.none)
