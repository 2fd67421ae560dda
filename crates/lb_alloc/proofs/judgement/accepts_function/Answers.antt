use Rattle.lb_flat.specs.Flat.{flat_routine}
use Rattle.lb_alloc.proofs.AcceptLemmas.{accepted_as}
use Rattle.lb_alloc.proofs.judgement.accepts_function.Goals as goal

pub returns : goal.returns
returns c = accepted_as (flat_routine c.args.f.now) c.args.places.now c.is_function_apart.result c.if-places-f.false (c.may_all_hold.ensures.0 c.if-not-may_all_hold.false) c.is_function_apart.ensures
