use Rattle.std.proofs.Common.{List, ap, ◌∙◌}
use Rattle.std.specs.Prelude.{map}
use Rattle.lb_syntax.specs.declared.tree.Function.{Function}
use Rattle.lb_syntax.specs.Tree.{procedure_of}
use Rattle.lb_syntax.specs.Brackets.{brackets}
use Rattle.lb_syntax.proofs.OpenCommandLemmas.{brackets-nest}
use Rattle.lb_syntax.proofs.nesting.brackets.Goals as goal

pub returns : goal.returns
returns c =
    c.of_functions.ensures.value ∙ brackets-nest _ c.of_functions.ensures.well_formed
    ∙ ap (λ (fs : List Function). brackets (map procedure_of fs)) c.as_slice.ensures
