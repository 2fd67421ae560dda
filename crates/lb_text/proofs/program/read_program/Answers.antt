use Rattle.std.proofs.Common.{refl, []}
use Rattle.lb_spelling.proofs.Place.{stuck_fault, fault_is}
use Rattle.lb_spelling.proofs.Same.{text_same}
use Rattle.lb_text.proofs.program.read_program.Goals as goal

pub overflow_sub-at : goal.overflow_sub-at
overflow_sub-at c = let p = rw c.in-Err-Syntax.field-0-is at c.in-Err-Syntax.ensures.fault in (stuck_fault _ _ _ (p [])).bound

pub returns-in-Ok-clause-only : goal.returns-in-Ok-clause-only
returns-in-Ok-clause-only c p text = text_same p _ _ text c.in-Ok.ensures.found.0

pub returns-in-Err-Syntax-clause-refused : goal.returns-in-Err-Syntax-clause-refused
returns-in-Err-Syntax-clause-refused c = let p = rw c.in-Err-Syntax.field-0-is at c.in-Err-Syntax.ensures.fault in (stuck_fault _ _ _ (p [])).refused

pub returns-in-Err-Syntax-clause-place : goal.returns-in-Err-Syntax-clause-place
returns-in-Err-Syntax-clause-place c = let p = rw c.in-Err-Syntax.field-0-is at c.in-Err-Syntax.ensures.fault in fault_is _ _ _ _ (p []) refl refl
