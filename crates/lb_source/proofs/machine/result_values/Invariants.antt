use Rattle.std.proofs.Common.{◌≡◌, drop}
use Rattle.std.specs.Prelude.{map}
use Rattle.lb_syntax.specs.Tree.{Variable}
use Rattle.lb_source.specs.Value.{values}
use Rattle.lb_source.specs.InternalMachine.{variables_of, memory_of}
use Rattle.lb_source.proofs.ValueLemmas.{after}
use Rattle.lb_source.proofs.machine.result_values.Given as goal

abbrev pub invariant-loop-name : goal.invariant-loop-name
invariant-loop-name l =
    after l.vs (values (variables_of l.m.variables.items) (memory_of l.m.bytes) (map Variable (drop l.name-index l.results)))
    ≡ values (variables_of l.m.variables.items) (memory_of l.m.bytes) (map Variable l.results)
