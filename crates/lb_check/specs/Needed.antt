-- What a program needs.
use Rattle.std.specs.Prelude.{◌≡◌, List}
use Rattle.lb_syntax.specs.Tree.{Procedure}
use Rattle.lb_syntax.specs.Needs.{code_need}
use Rattle.lb_syntax.specs.Calls.{IsStackNeed}
use Rattle.lb_check.specs.declared.checked.Needs.{Needs}

-- the program's words of code and bytes of stack
pub record AreNeedsOf (p : List Procedure) (needs : Needs) : Type 0 where
  pub words : needs.words ≡ code_need p
  pub stack : IsStackNeed p needs.stack
