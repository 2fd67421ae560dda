use Rattle.lb_scan.specs.Tokens.{token_of}
use Rattle.lb_scan.proofs.Fronts.{reads_word}
use Rattle.lb_scan.proofs.Refused.{untaken_refused}
use Rattle.lb_scan.proofs.scanner.word_or_sign.Goals as goal

pub returns-in-Some-clause-found : goal.returns-in-Some-clause-found
returns-in-Some-clause-found c = reads_word c.args.expected c.args.bytes.now c.spelling_len-len.result c.split_at.result.0.now c.split_at.result.1.now (token_of c.in-Some.token) c.spelling_len-len.ensures c.requires.no_digit c.split_at.ensures.front c.split_at.ensures.back c.in-Some.ensures

pub returns-in-None-clause-refused : goal.returns-in-None-clause-refused
returns-in-None-clause-refused c = untaken_refused c.args.expected c.args.bytes.now c.spelling_len-len.result c.spelling_len-len.ensures c.requires.no_digit (rw (← c.split_at.ensures.front) c.in-None.ensures)
