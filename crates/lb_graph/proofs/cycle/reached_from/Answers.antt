-- The search begins, goes on node by node, and ends where all of its order is followed.
use Rattle.std.proofs.Common.{ℕ, ◌≡◌, ◌<◌, List, length, slice_index, ap, subst, ◌∙◌, arith}
use Rattle.std.proofs.lemmas.Grind.{get_or_default_zero}
use Rattle.lb_graph.specs.Paths.{successors}
use Rattle.lb_graph.specs.InternalSearch.{Adds}
use Rattle.lb_graph.proofs.SearchLemmas.{search_begins, search_goes, search_ends, marked_node, read_at}
use Rattle.lb_graph.proofs.cycle.reached_from.Goals as goal

pub loop-at-init : goal.loop-at-init
loop-at-init c =
    let P : List ℕ → Type 0 = λ xs. Adds xs c.in_ok-found.found.marks.items c.in_ok-found.found.order.items c.add.new.self.marks.items c.add.new.self.order.items in
    search_begins c.args.graph.now.calls c.args.start _ _ _ _
    (c.in_ok-found.ensures.length ∙ ap (λ (g : List (List ℕ)). length g) c.as_slice-calls.ensures)
    c.requires
    c.in_ok-found.ensures.marks
    (subst P (read_at c.args.graph.now.calls c.as_slice-calls.result.now c.args.start _ _ c.as_slice-calls.ensures c.index-calls-start.is c.as_slice.ensures c.requires)
    c.in_ok-add.ensures)

pub bounds-calls-node : goal.bounds-calls-node
bounds-calls-node c =
    let b : c.loop-at.at < length c.loop-at.found.order.items = omega arith in
    let r = get_or_default_zero c.loop-at.found.order.items c.loop-at.at c.index.result.now b in
    let n = marked_node c.loop-at.found.marks.items _ (c.loop-at.invariant.is_order.marked c.loop-at.at b) in
    let e = ap (λ (g : List (List ℕ)). length g) c.as_slice-calls.ensures in
    omega (arith, r, n, e, c.index.ensures, c.from-node.ensures, c.loop-at.invariant.as_long)

pub loop-at-preserved : goal.loop-at-preserved
loop-at-preserved c =
    let b : c.loop-at.at < length c.loop-at.found.order.items = omega arith in
    let r = get_or_default_zero c.loop-at.found.order.items c.loop-at.at c.index.result.now b in
    let n = marked_node c.loop-at.found.marks.items _ (c.loop-at.invariant.is_order.marked c.loop-at.at b) in
    let e : c.from-node.result ≡ slice_index c.loop-at.found.order.items c.loop-at.at = c.from-node.ensures ∙ c.index.ensures ∙ r in
    let f = read_at c.args.graph.now.calls c.as_slice-calls.result.now c.from-node.result _ _ c.as_slice-calls.ensures c.index-calls-node.is c.as_slice-in-loop-at.ensures
    (omega (arith, n, e, c.loop-at.invariant.as_long)) in
    let P : List ℕ → Type 0 = λ xs. Adds xs c.loop-at.found.marks.items c.loop-at.found.order.items c.add-in-loop-at.new.self.marks.items c.add-in-loop-at.new.self.order.items in
    search_goes c.args.graph.now.calls c.args.start c.loop-at.at _ _ _ _ c.loop-at.invariant b
    (subst P (f ∙ ap (λ v. successors c.args.graph.now.calls v) e) c.in_ok-add-2.ensures)

pub returns-clause-marks : goal.returns-clause-marks
returns-clause-marks c = search_ends c.args.graph.now.calls c.args.start c.loop-at.at _ c.loop-at.found.order.items c.loop-at.invariant (omega arith)
