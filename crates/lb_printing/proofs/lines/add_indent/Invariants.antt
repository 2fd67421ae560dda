use Rattle.std.proofs.Common.{◌≡◌, ◌++◌, ◌-◌, ◌≤◌}
use Rattle.lb_syntax.specs.Printing.{indent}
use Rattle.lb_printing.proofs.lines.add_indent.Given as goal

-- the rest is what the text lacks
abbrev pub invariant-loop : goal.invariant-loop
invariant-loop l = record {
  within : l.counter ≤ l.depth;
  printed : l.text.items ++ indent (l.depth - l.counter) ≡ l.fn.text.items ++ indent l.depth;
}
