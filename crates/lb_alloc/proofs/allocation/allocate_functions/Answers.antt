use Rattle.lb_alloc.proofs.NameLemmas.{names_of_item}
use Rattle.lb_alloc.proofs.ServedLemmas.{next_served}
use Rattle.lb_alloc.proofs.allocation.allocate_functions.Goals as goal

pub allocate_function-requires : goal.allocate_function-requires
allocate_function-requires c =
    names_of_item c.args.flat.now c.as_slice-f-items.result.now c.requires c.as_slice-f-items.ensures c.loop-f.f-index c.f-item.result c.loop-f-test.true c.f-item.is

pub loop-f-preserved : goal.loop-f-preserved
loop-f-preserved c =
    rw c.in_ok-push.ensures.items (next_served c.as_slice-f-items.result.now c.loop-f.f-index c.loop-f.lists.items c.f-item.result c.in_ok-allocate_function.field-0 c.loop-f-test.true c.f-item.is c.loop-f.invariant c.in_ok-allocate_function.ensures)
