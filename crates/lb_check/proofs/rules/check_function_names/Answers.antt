use Rattle.std.proofs.Common.{List, map, sym, ap, ◌∙◌}
use Rattle.std.specs.Prelude.{slice_get}
use Rattle.lb_syntax.specs.Names.{Text}
use Rattle.lb_syntax.specs.Tree.{procedure_of}
use Rattle.lb_syntax.specs.Rules.{function_names}
use Rattle.lb_check.specs.declared.fault.CheckFault.TheVariants.{DuplicateFunction}
use Rattle.lb_check.specs.Order.{repeated}
use Rattle.lb_check.proofs.Tell.{none_told, first_told}
use Rattle.lb_check.proofs.rules.check_function_names.Goals as goal

pub returns-in-None : goal.returns-in-None
returns-in-None c =
    none_told (λ x. DuplicateFunction x) (repeated (function_names (map procedure_of c.args.functions.now)))
    (sym c.in-None.is ∙ c.in_ok-first_repeated.ensures ∙ ap (λ (xs : List Text). slice_get (repeated xs) 0) (c.as_slice.ensures.value ∙ c.in_ok-names.ensures))

pub returns : goal.returns
returns c =
    first_told (λ x. DuplicateFunction x) (repeated (function_names (map procedure_of c.args.functions.now))) c.in-Some.function
    (sym c.in-Some.is ∙ c.in_ok-first_repeated.ensures ∙ ap (λ (xs : List Text). slice_get (repeated xs) 0) (c.as_slice.ensures.value ∙ c.in_ok-names.ensures))
