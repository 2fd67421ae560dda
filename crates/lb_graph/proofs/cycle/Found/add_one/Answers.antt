-- A node that is new is marked, and any other changes nothing.
use Rattle.std.proofs.Common.{arith}
use Rattle.lb_graph.proofs.SearchLemmas.{adds_one, unmarked_at}
use Rattle.lb_graph.proofs.cycle.Found.add_one.Goals as goal

pub returns-in_ok-push : goal.returns-in_ok-push
returns-in_ok-push c =
    rw (c.in_ok-push.ensures.items, c.from-at.ensures)
    (adds_one _ _ c.args.node c.requires (omega arith)
    (unmarked_at _ c.from-at.result c.args.node c.index.result.now c.index.ensures c.if-not-index.true c.from-at.ensures))
