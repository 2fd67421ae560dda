use Rattle.std.proofs.Common.{◌≡◌, drop}
use Rattle.lb_source.specs.Run.{set_all}
use Rattle.lb_source.specs.InternalMachine.{variables_of}
use Rattle.lb_source.proofs.machine.assign_all.Given as goal

abbrev pub invariant-loop-i : goal.invariant-loop-i
invariant-loop-i l =
    set_all (drop l.i l.names) (drop l.i l.vs) (variables_of l.entries.items) ≡ set_all l.names l.vs (variables_of l.initial.entries.items)
