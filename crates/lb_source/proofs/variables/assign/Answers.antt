use Rattle.lb_source.proofs.MapLemmas.{same_everywhere, variables_of-push}
use Rattle.lb_source.proofs.variables.assign.Goals as goal

pub returns : goal.returns
returns c = rw (c.in_ok-push.ensures.items, c.unset.ensures.entries, c.in_ok-name_copy.ensures) (same_everywhere _ _ (λ y. variables_of-push _ y _ _))
