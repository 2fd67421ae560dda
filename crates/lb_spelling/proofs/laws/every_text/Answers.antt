use Rattle.lb_spelling.proofs.Whole.{every_text, not_both}
use Rattle.lb_spelling.proofs.laws.every_text.Goals as goal

pub returns-clause-either : goal.returns-clause-either
returns-clause-either c = every_text

pub returns-clause-not_both : goal.returns-clause-not_both
returns-clause-not_both c = not_both
