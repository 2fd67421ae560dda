-- One more node is found.
use Rattle.std.proofs.lemmas.List.{take_more}
use Rattle.lb_graph.proofs.SearchLemmas.{adds_more}
use Rattle.lb_graph.proofs.cycle.Found.add.Goals as goal

pub loop-node-preserved : goal.loop-node-preserved
loop-node-preserved c =
    rw (take_more c.args.calls.now c.loop-node.node-index 0 c.loop-node-test.true)
    (adds_more _ _ _ _ _ _ _ _ c.loop-node.invariant c.in_ok-add_one.ensures)
