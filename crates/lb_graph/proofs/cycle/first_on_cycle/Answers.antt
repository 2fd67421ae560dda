-- No node before the one at hand lies on a cycle.
use Rattle.std.proofs.Common.{refl, arith}
use borrow.Author.Count.{below_more}
use Rattle.lb_graph.proofs.PathLemmas.{leads_from_node}
use Rattle.lb_graph.proofs.SearchLemmas.{unmarked_at}
use Rattle.lb_graph.proofs.cycle.first_on_cycle.Goals as goal

pub loop-v-preserved : goal.loop-v-preserved
loop-v-preserved c =
    below_more _ _ c.loop-v.invariant (λ h.
    let marked = (c.in_ok-marks.ensures.marks c.loop-v.v).1 h in
    let unmarked = unmarked_at c.in_ok-marks.marks.items c.loop-v.v c.loop-v.v c.index.result.now c.index.ensures c.if-index.false refl in
    cc)

pub returns-clause-none : goal.returns-clause-none
returns-clause-none c = λ v h. c.loop-v.invariant v (omega (arith, leads_from_node c.args.graph.now.calls v v h)) h
