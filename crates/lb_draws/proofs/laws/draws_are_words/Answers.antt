use Rattle.lb_draws.proofs.StateLemmas.{next_below, state_below}
use Rattle.lb_draws.proofs.laws.draws_are_words.Goals as goal

pub returns : goal.returns
returns c = λ seed worker n below. next_below _ (state_below seed worker n below)
