-- The laws of what a program is refused for.
use Rattle.std.specs.Prelude.{◌≡◌, List}
use Rattle.lb_syntax.specs.Tree.{Procedure}
use Rattle.lb_check.specs.declared.fault.CheckFault.{CheckFault}
use Rattle.lb_syntax.specs.Rules.{KeepsRules}
use Rattle.lb_check.specs.Verdict.{IsFirstFault}

-- a program has one first fault at most
abbrev pub OneFault : Type 0
OneFault = (p : List Procedure) (f g : CheckFault) → IsFirstFault p f → IsFirstFault p g → f ≡ g

-- no program has a first fault and keeps the rules
abbrev pub NotBoth : Type 0
NotBoth = (p : List Procedure) (f : CheckFault) → IsFirstFault p f → ¬ (KeepsRules p)
