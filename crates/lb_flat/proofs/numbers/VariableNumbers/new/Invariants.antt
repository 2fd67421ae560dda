use Rattle.std.proofs.Common.{take}
use Rattle.lb_flat.specs.InternalFlatten.{texts_of, AreTheirNumbers}
use Rattle.lb_flat.proofs.NumberLemmas.{AreJust}
use Rattle.lb_flat.proofs.numbers.VariableNumbers.new.Given as goal

-- the names so far, each once, and their numbers
abbrev pub invariant-loop-name : goal.invariant-loop-name
invariant-loop-name l = record {
  just : AreJust (texts_of l.made.items) (take l.name-index l.names);
  numbers : AreTheirNumbers l.numbers (texts_of l.made.items);
}
