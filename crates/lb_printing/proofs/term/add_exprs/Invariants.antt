use Rattle.std.proofs.Common.{◌≡◌, ◌++◌, drop}
use Rattle.std.specs.Prelude.{map}
use Rattle.std.specs.List.{AllByRecursion}
use Rattle.lb_syntax.specs.Tree.{term_of}
use Rattle.lb_syntax.specs.WellFormed.{IsTerm}
use Rattle.lb_syntax.specs.Printing.{term_text, listed}
use Rattle.lb_printing.proofs.ListLemmas.{commas}
use Rattle.lb_printing.proofs.term.add_exprs.Given as goal

-- the rest is what the text lacks, and all are expressions if the rest are
abbrev pub invariant-loop-expr : goal.invariant-loop-expr
invariant-loop-expr l =
    let rest = map term_of (drop l.expr-index l.rest) in
    let whole = map term_of l.exprs in
    record {
      printed : l.text.items ++ commas (map term_text rest) ≡ l.fn.text.items ++ listed (map term_text whole);
      well_formed : AllByRecursion IsTerm rest → AllByRecursion IsTerm whole;
    }
