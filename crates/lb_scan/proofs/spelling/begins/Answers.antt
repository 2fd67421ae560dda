use Rattle.std.proofs.Common.{◌∙◌, sym}
use Rattle.lb_scan.proofs.Spellings.{begun_name, begun_taken, begun_else}
use Rattle.lb_scan.proofs.spelling.begins.Goals as goal

pub returns-then-begins_name : goal.returns-then-begins_name
returns-then-begins_name c = begun_name c.args.expected c.args.bytes.now c.requires (sym c.begins_name.ensures ∙ c.if-begins_name.true)

pub returns-then-begins_taken : goal.returns-then-begins_taken
returns-then-begins_taken c = begun_taken c.args.expected c.args.bytes.now c.requires (sym c.begins_taken.ensures ∙ c.if-begins_taken.true)

pub returns : goal.returns
returns c = c.begins_with.ensures ∙ begun_else c.args.expected c.args.bytes.now c.requires (sym c.begins_name.ensures ∙ c.if-begins_name.false) (sym c.begins_taken.ensures ∙ c.if-begins_taken.false)
