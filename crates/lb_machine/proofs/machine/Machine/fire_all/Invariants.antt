use Rattle.std.proofs.Common.{◌≡◌, take}
use Rattle.lb_machine.proofs.machine.Machine.fire_all.Given as goal

-- the job is the same, and the log has the entries so far
abbrev pub invariant-loop-entry : goal.invariant-loop-entry
invariant-loop-entry l = (l.self.fixed ≡ l.fn.self.fixed) × (l.self.log ≡ take l.entry-index l.entries)
