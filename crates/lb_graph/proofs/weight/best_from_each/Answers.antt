-- A round that changes nothing ends it, and so do as many rounds as there are nodes.
use Rattle.std.proofs.Common.{◌≡◌, ℕ, List, length, subst, sym, ◌∙◌, arith}
use Rattle.std.proofs.lemmas.Slice.Eq.{bytes_eq-Decides}
use Rattle.lb_graph.specs.InternalBest.{IsStep}
use Rattle.lb_graph.proofs.BestLemmas.{IsBestUpTo, best_goes, best_settles, best_ends}
use Rattle.lb_graph.proofs.weight.best_from_each.Goals as goal

pub returns-then-eq : goal.returns-then-eq
returns-then-eq c =
    let test = (bytes_eq-Decides c.as_slice-in-loop-round.result.now c.as_slice-in-loop-round-2.result.now).0 (sym c.if-eq.ensures) in
    let same : c.in_ok-next.next.items ≡ c.loop-round.best.items =
    sym c.as_slice-in-loop-round.ensures.value ∙ test ∙ c.as_slice-in-loop-round-2.ensures.value in
    let P : List ℕ → Type 0 = λ xs. IsStep c.args.graph.now.calls c.args.weights.now xs (length c.args.graph.now.calls) c.in_ok-next.next.items in
    let Q : List ℕ → Type 0 = λ xs. IsStep c.args.graph.now.calls c.args.weights.now c.loop-round.best.items (length c.args.graph.now.calls) xs in
    best_settles c.args.graph.now.calls c.args.weights.now c.loop-round.best.items c.loop-round._round c.loop-round.invariant
    (subst Q same (subst P c.as_slice.ensures.value c.in_ok-next.ensures))

pub loop-round-preserved : goal.loop-round-preserved
loop-round-preserved c =
    let P : List ℕ → Type 0 = λ xs. IsStep c.args.graph.now.calls c.args.weights.now xs (length c.args.graph.now.calls) c.in_ok-next.next.items in
    best_goes c.args.graph.now.calls c.args.weights.now c.loop-round.best.items c.in_ok-next.next.items c.loop-round._round
    (λ v. omega (arith, c.type_inv.weights v)) c.loop-round.invariant (subst P c.as_slice.ensures.value c.in_ok-next.ensures)

pub returns : goal.returns
returns c =
    let P : ℕ → Type 0 = λ k. IsBestUpTo c.args.graph.now.calls c.args.weights.now k c.loop-round.best.items in
    let e : c.loop-round._round ≡ length c.args.graph.now.calls = omega arith in
    best_ends c.args.graph.now.calls c.args.weights.now c.loop-round.best.items c.requires.acyclic (subst P e c.loop-round.invariant)
