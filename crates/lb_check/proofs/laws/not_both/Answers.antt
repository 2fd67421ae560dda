use Rattle.lb_check.proofs.Refusals.{refusal}
use Rattle.lb_check.proofs.laws.not_both.Goals as goal

pub returns : goal.returns
returns c p f h = (refusal p f h).1
