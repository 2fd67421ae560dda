use Rattle.std.proofs.Common.{◌∙◌, sym}
use Rattle.lb_scan.proofs.Spellings.{joins_run, joins_fixed, joins_else}
use Rattle.lb_scan.proofs.spelling.joins.Goals as goal

pub returns-then-are_in_run : goal.returns-then-are_in_run
returns-then-are_in_run c = joins_run c.args.bytes.now c.args.len c.requires.some c.requires.within (sym c.are_in_run.ensures ∙ c.if-are_in_run.true)

pub returns-then-begins_fixed : goal.returns-then-begins_fixed
returns-then-begins_fixed c = joins_fixed c.args.bytes.now c.args.len c.requires.some c.requires.within (sym c.begins_fixed.ensures ∙ c.if-begins_fixed.true)

pub returns : goal.returns
returns c = c.begins_with.ensures ∙ joins_else c.args.bytes.now c.args.len c.requires.some c.requires.within (sym c.are_in_run.ensures ∙ c.if-are_in_run.false) (sym c.begins_fixed.ensures ∙ c.if-begins_fixed.false)
