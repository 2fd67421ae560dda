use Rattle.std.proofs.Common.{◌≡◌, ◌+◌, drop}
use Rattle.std.specs.Prelude.{map}
use Rattle.lb_syntax.specs.Tree.{procedure_of}
use Rattle.lb_check.specs.Parts.{parts}
use Rattle.lb_handmade.proofs.size.after_functions.Given as goal

-- what is left, and what is still to take, is the room
abbrev pub invariant-loop-function : goal.invariant-loop-function
invariant-loop-function l = l.left + parts (map procedure_of l.functions) ≡ l.room + parts (map procedure_of (drop l.function-index l.functions))
