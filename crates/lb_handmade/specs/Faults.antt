-- Why there is no checked program.
use Rattle.std.specs.Prelude.{◌≡◌, List}
use Rattle.lb_syntax.specs.Tree.{Procedure}
use Rattle.lb_syntax.specs.Rules.{KeepsRules}
use Rattle.lb_syntax.specs.declared.name.NameFault.{NameFault}
use Rattle.lb_syntax.specs.declared.name.NameFault.TheVariants as name
use Rattle.lb_handmade.specs.declared.handmade.NotChecked.{NotChecked}
use Rattle.lb_handmade.specs.declared.handmade.NotChecked.TheVariants as made

-- the program breaks a rule of the language
abbrev pub BreaksARule : List Procedure → Type 0
BreaksARule p = ¬ (KeepsRules p)

-- there is no program for the reason for which there is no name
abbrev pub IsSameFault : NameFault → NotChecked → Type 0
IsSameFault name.NotAName fault = fault ≡ made.NotAName
IsSameFault name.Memory fault = fault ≡ made.Memory
