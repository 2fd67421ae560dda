use Rattle.std.proofs.Common.{◌≡◌, drop}
use Rattle.lb_source.specs.InternalMachine.{variables_of}
use Rattle.lb_source.proofs.variables.find.Given as goal

abbrev pub invariant-loop-entry : goal.invariant-loop-entry
invariant-loop-entry l = variables_of (drop l.entry-index l.entries) l.name ≡ variables_of l.entries l.name
