use Rattle.lb_emit_laws.proofs.TheoremLemmas.{program_words_are_code}
use Rattle.lb_emit_laws.proofs.laws.program_words_are_code.Goals as goal

pub returns : goal.returns
returns c = program_words_are_code
