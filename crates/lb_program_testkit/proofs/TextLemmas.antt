-- Why a text has no program.
use Rattle.std.proofs.Common.{◌≡◌, List, subst}
use Rattle.lb_syntax.specs.Names.{Text}
use Rattle.lb_syntax.specs.Tree.{Procedure}
use Rattle.lb_syntax.specs.Rules.{KeepsRules}
use Rattle.lb_spelling.specs.Grammar.{IsText}
use Rattle.lb_spelling.specs.Places.{IsRefused}
use Rattle.lb_handmade.specs.Faults.{BreaksARule}
use Rattle.lb_program_testkit.specs.Texts.{IsNoProgram}

pub unread : (s : Text) → IsRefused s → IsNoProgram s
unread s h p is keeps = h p is

pub broken : (s : Text) (q : List Procedure) → ((p : List Procedure) → IsText p s → p ≡ q) → BreaksARule q → IsNoProgram s
broken s q only breaks p is keeps = breaks (subst (λ (p : List Procedure). KeepsRules p) (only p is.0) keeps)
