use Rattle.std.proofs.Common.{◌∙◌, sym}
use Rattle.lb_spelling.specs.Tokens.{is_word_byte}
use Rattle.lb_scan.proofs.Spellings.{kind_length, kind_word, kind_long, kind_byte}
use Rattle.lb_scan.proofs.spelling.kind_in.Goals as goal

pub returns-then-spelling-ne32 : goal.returns-then-spelling-ne32
returns-then-spelling-ne32 c = c.unexpected.ensures ∙ kind_length c.args.spelling.now c.args.b c.requires c.if-spelling-ne32.true

pub returns-then-not-is_word : goal.returns-then-not-is_word
returns-then-not-is_word c = c.unexpected-then-not-is_word.ensures ∙ kind_word c.args.spelling.now c.args.b c.requires (sym c.is_word.ensures ∙ c.if-not-is_word.true)

pub returns-then-is_name_byte : goal.returns-then-is_name_byte
unfolding is_word_byte
returns-then-is_name_byte c = kind_long c.args.spelling.now c.args.b c.requires c.if-spelling-ne32.false (sym c.is_word.ensures ∙ c.if-not-is_word.false) (sym c.is_name_byte.ensures ∙ c.if-is_name_byte.true)

pub returns-else-is_name_byte : goal.returns-else-is_name_byte
unfolding is_word_byte
returns-else-is_name_byte c = c.unexpected-else-is_name_byte.ensures ∙ kind_byte c.args.spelling.now c.args.b c.requires (sym c.is_name_byte.ensures ∙ c.if-is_name_byte.false)
