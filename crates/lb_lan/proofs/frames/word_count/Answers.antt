use Rattle.std.proofs.Common.{sym}
use Rattle.lb_lan.proofs.FrameLemmas.{length-words_of}
use Rattle.lb_lan.proofs.frames.word_count.Goals as goal

pub returns-clause-count : goal.returns-clause-count
returns-clause-count c = sym (length-words_of c.args.bytes.now)
