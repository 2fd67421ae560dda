-- One number more.
use Rattle.std.proofs.Common.{◌≡◌, rules, slice_index, max}
use Rattle.std.proofs.lemmas.List.{take_more}
use Rattle.lb_graph.proofs.BestLemmas.{greatest_more}
use Rattle.lb_graph.proofs.weight.greatest.Goals as goal

pub loop-b-preserved : goal.loop-b-preserved
loop-b-preserved c =
    let at = c.loop-b.b-index in
    let m : c.max-most.result ≡ max c.loop-b.most (slice_index c.args.best.now at) = search (rules, c.max-most.ensures) in
    rw (take_more c.args.best.now at 0 c.loop-b-test.true, m)
    (greatest_more _ _ _ c.loop-b.invariant)
