-- The outcome of what was decoded.
use Rattle.std.specs.Prelude.{ℕ}
use Rattle.lb_outcome.specs.declared.types.Executed.{Executed}
use Rattle.lb_outcome.specs.Outcomes.{executed}
use Rattle.lb_exec.specs.declared.item.DecodeItem.{DecodeItem}

-- the outcome of an item and the address of the next instruction, where the code has this many bytes
abbrev pub execution : DecodeItem → ℕ → Executed
execution item code_bytes = executed code_bytes item.pc item.word item.instruction item.left item.right
