use Rattle.std.proofs.Common.{ap, ◌∙◌}
use Rattle.lb_memory.specs.declared.TheConstants.{STACK_TOP}
use Rattle.lb_source.specs.InternalMachine.{memory_of}
use Rattle.lb_source.proofs.MemoryLemmas.{absent_nothing}
use Rattle.lb_source.proofs.memory.Bytes.new.Goals as goal

pub returns : goal.returns
returns c = ap memory_of c.in_ok-cells.ensures ∙ absent_nothing STACK_TOP
