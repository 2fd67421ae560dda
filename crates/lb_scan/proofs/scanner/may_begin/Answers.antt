use Rattle.std.proofs.Common.{◌∙◌, sym}
use Rattle.lb_scan.proofs.Fronts.{digit_begins}
use Rattle.lb_scan.proofs.scanner.may_begin.Goals as goal

pub returns-then-is_digit : goal.returns-then-is_digit
returns-then-is_digit c = c.takes.ensures ∙ digit_begins c.args.expected c.args.b (sym c.is_digit.ensures ∙ c.if-is_digit.true)
