use Rattle.std.proofs.Common.{◌∙◌, sym}
use Rattle.lb_scan.specs.Tokens.{token_of}
use Rattle.lb_scan.proofs.Spellings.{lexeme_table, lexeme_word, lexeme_none}
use Rattle.lb_scan.proofs.spelling.lexeme.Goals as goal

pub returns-in-Some : goal.returns-in-Some
returns-in-Some c = lexeme_table c.args.spelling.now (token_of c.in-Some.token) c.requires c.in-Some.ensures

pub returns-then-is_word : goal.returns-then-is_word
returns-then-is_word c = lexeme_word c.args.spelling.now c.in-None.ensures (sym c.is_word.ensures ∙ c.if-is_word.true)

pub returns-else-is_word : goal.returns-else-is_word
returns-else-is_word c = lexeme_none c.args.spelling.now c.requires c.in-None.ensures (sym c.is_word.ensures ∙ c.if-is_word.false)
