use Rattle.std.proofs.Common.{◌≡◌, ◌+◌, ◌≤◌, drop}
use Rattle.std.specs.Prelude.{map, max, sum}
use Rattle.std.specs.List.{AllByRecursion}
use Rattle.lb_syntax.specs.Tree.{term_of}
use Rattle.lb_syntax.specs.WellFormed.{IsTerm}
use Rattle.lb_syntax.specs.Needs.{nodes}
use Rattle.lb_syntax.specs.InternalNesting.{terms_nest}
use Rattle.lb_syntax.proofs.nesting.of_exprs.Given as goal

-- the rest has what the count lacks, and it is well-formed if the rest is
abbrev pub invariant-loop-expr : goal.invariant-loop-expr
invariant-loop-expr l =
    let rest = map term_of (drop l.expr-index l.exprs) in
    let whole = map term_of l.exprs in
    record {
      counted : max l.most (terms_nest rest) ≡ terms_nest whole;
      few : l.most + sum (map nodes rest) ≤ sum (map nodes whole);
      well_formed : AllByRecursion IsTerm rest → AllByRecursion IsTerm whole;
    }
