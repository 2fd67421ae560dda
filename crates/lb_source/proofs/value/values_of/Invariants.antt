use Rattle.std.proofs.Common.{◌≡◌, drop}
use Rattle.std.specs.Prelude.{map}
use Rattle.lb_syntax.specs.Tree.{term_of}
use Rattle.lb_source.specs.Value.{values}
use Rattle.lb_source.specs.InternalMachine.{variables_of, memory_of}
use Rattle.lb_source.proofs.ValueLemmas.{after}
use Rattle.lb_source.proofs.value.values_of.Given as goal

abbrev pub invariant-loop-e : goal.invariant-loop-e
invariant-loop-e l =
    after l.values (values (variables_of l.entries) (memory_of l.bytes) (map term_of (drop l.e-index l.es)))
    ≡ values (variables_of l.entries) (memory_of l.bytes) (map term_of l.es)
