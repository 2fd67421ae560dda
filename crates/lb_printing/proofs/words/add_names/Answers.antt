use Rattle.std.proofs.Common.{List, ◌++◌, ap, subst, sym, ◌∙◌}
use Rattle.std.specs.List.{AllByRecursion}
use Rattle.lb_syntax.specs.Names.{Text, IsName}
use Rattle.lb_syntax.specs.Printing.{listed}
use Rattle.lb_printing.proofs.ListLemmas.{first_added}
use Rattle.lb_printing.proofs.words.add_names.Goals as goal

pub loop-name-init : goal.loop-name-init
loop-name-init c = record {
  printed =
      first_added _ _ c.in-Some.first.now c.in-Some.rest.now c.in_ok-add_name.ensures.printed
      ∙ ap (λ (xs : List Text). c.args.text.now.items ++ listed xs) (sym c.in-Some.ensures.cases.0);
  well_formed = λ h. subst (λ (xs : List Text). AllByRecursion IsName xs) (sym c.in-Some.ensures.cases.0) (c.in_ok-add_name.ensures.well_formed, h);
}
