use Rattle.std.proofs.Common.{List, ◌++◌, ap, subst, sym, ◌∙◌}
use Rattle.std.specs.Prelude.{map}
use Rattle.std.specs.List.{AllByRecursion}
use Rattle.lb_syntax.specs.declared.tree.Expr.{Expr}
use Rattle.lb_syntax.specs.Tree.{term_of}
use Rattle.lb_syntax.specs.WellFormed.{IsTerm}
use Rattle.lb_syntax.specs.Printing.{term_text, listed}
use Rattle.lb_printing.proofs.ListLemmas.{first_added}
use Rattle.lb_printing.proofs.term.add_exprs.Goals as goal

pub loop-expr-init : goal.loop-expr-init
loop-expr-init c = record {
  printed =
      first_added _ _ (term_text (term_of c.in-Some.first.now)) (map term_text (map term_of c.in-Some.rest.now)) c.in_ok-add_expr.ensures.printed
      ∙ ap (λ (es : List Expr). c.args.text.now.items ++ listed (map term_text (map term_of es))) (sym c.in-Some.ensures.cases.0);
  well_formed = λ h. subst (λ (es : List Expr). AllByRecursion IsTerm (map term_of es)) (sym c.in-Some.ensures.cases.0) (c.in_ok-add_expr.ensures.well_formed, h);
}
