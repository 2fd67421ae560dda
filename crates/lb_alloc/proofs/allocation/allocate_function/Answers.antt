use Rattle.lb_alloc.proofs.OwnLemmas.{own_served}
use Rattle.lb_alloc.proofs.allocation.allocate_function.Goals as goal

pub returns : goal.returns
returns c =
    rw c.from_vec-places-2.ensures (own_served c.args.f.now c.in_ok-own_places.field-0.items c.in_ok-own_places.ensures.len c.in_ok-own_places.ensures.own c.requires)
