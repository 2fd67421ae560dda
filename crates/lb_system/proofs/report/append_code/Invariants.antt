use Rattle.std.proofs.Common.{◌≡◌, ◌++◌, take}
use Rattle.lb_system.specs.Report.{code_lines}
use Rattle.lb_system.proofs.report.append_code.Given as goal

abbrev pub invariant-loop-place : goal.invariant-loop-place
invariant-loop-place l = l.text.items ≡ l.initial.text.items ++ code_lines (take l.place l.words)
