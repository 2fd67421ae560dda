use Rattle.std.proofs.Common.{◌++◌, ap, sym, ◌∙◌, arith}
use Rattle.std.specs.Prelude.{codes}
use Rattle.lb_syntax.specs.Names.{Text}
use Rattle.lb_printing.proofs.ListLemmas.{indent_step, front_added}
use Rattle.lb_printing.proofs.lines.add_indent.Goals as goal

pub loop-preserved : goal.loop-preserved
loop-preserved c = record {
  within = omega arith;
  printed =
      front_added _ _ (codes "  ") _ c.in_ok-extend_from_slice.ensures.items
      ∙ ap (λ (t : Text). c.loop.text.items ++ t) (sym (indent_step c.args.depth c.loop.counter c.loop-test.true))
      ∙ c.loop.invariant.printed;
}
