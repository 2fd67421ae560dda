use Rattle.std.proofs.lemmas.Option.{slice_get-get_or}
use Rattle.std.proofs.Common.{subst}
use Rattle.lb_machine.specs.Machines.{IsReplay}
use Rattle.lb_machine.proofs.MachineLemmas.{first_refused}
use Rattle.lb_machine.proofs.machine.Machine.fire_all.Goals as goal

pub returns-in-Err-clause-refused : goal.returns-in-Err-clause-refused
returns-in-Err-clause-refused c =
    rw (c.log.ensures.value, c.in-Err.ensures.err)
    (first_refused c.loop-entry.self c.args.self.now.fixed c.args.entries.now c.loop-entry.entry-index _ c.in-Err.field-0
    (subst IsReplay c.in-Err.ensures.err c.log.ensures.replay) c.loop-entry.invariant.0 c.loop-entry.invariant.1
    (slice_get-get_or c.args.entries.now c.loop-entry.entry-index _ c.loop-entry-test.true) c.requires.room c.in-Err.ensures.reason)
