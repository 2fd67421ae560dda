-- One node more.
use Rattle.std.proofs.Common.{◌<◌, ℕ, List, length, ap, subst, arith}
use Rattle.lb_graph.specs.InternalBest.{IsGreatestAmong}
use Rattle.lb_graph.proofs.BestLemmas.{step_more}
use Rattle.lb_graph.proofs.SearchLemmas.{read_at}
use Rattle.lb_graph.proofs.weight.one_edge_more.Goals as goal

pub loop-node-preserved : goal.loop-node-preserved
loop-node-preserved c =
    let g = c.args.graph.now.calls in
    let same = ap (λ (g : List (List ℕ)). length g) c.as_slice-calls-items.ensures in
    let b : c.loop-node.node < length c.args.graph.now.calls = omega (arith, same) in
    let P : List ℕ → Type 0 = λ xs. IsGreatestAmong c.args.best.now xs c.greatest_among.result in
    rw (c.in_ok-push.ensures.items, c.from.ensures)
    (step_more g c.args.weights.now c.args.best.now _ _ _ c.loop-node.invariant
    (subst P (read_at g c.as_slice-calls-items.result.now c.loop-node.node _ _ c.as_slice-calls-items.ensures c.calls-item.is c.as_slice.ensures b)
    c.greatest_among.ensures))
