-- The greatest of the best from each node.
use Rattle.std.proofs.Common.{ℕ, List, subst}
use Rattle.lb_graph.specs.InternalBest.{IsGreatest}
use Rattle.lb_graph.proofs.BestLemmas.{best_of_all}
use Rattle.lb_graph.proofs.weight.greatest_weight.Goals as goal

pub returns : goal.returns
returns c =
    let P : List ℕ → Type 0 = λ xs. IsGreatest xs c.greatest.result in
    best_of_all _ _ c.in_ok-best.best.items _ c.in_ok-best.ensures (subst P c.as_slice.ensures.value c.greatest.ensures)
