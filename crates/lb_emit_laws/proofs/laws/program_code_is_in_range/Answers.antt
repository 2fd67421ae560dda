use Rattle.lb_emit_laws.proofs.TheoremLemmas.{program_code_is_in_range}
use Rattle.lb_emit_laws.proofs.laws.program_code_is_in_range.Goals as goal

pub returns : goal.returns
returns c = program_code_is_in_range
