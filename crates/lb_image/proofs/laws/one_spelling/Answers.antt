use Rattle.lb_image.proofs.ReadingLemmas.{one_spelling}
use Rattle.lb_image.proofs.laws.one_spelling.Goals as goal

pub returns : goal.returns
returns c = one_spelling
