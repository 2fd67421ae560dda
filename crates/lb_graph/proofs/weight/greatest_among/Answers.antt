-- One place more.
use Rattle.std.proofs.Common.{◌≡◌, ℕ, ap, ◌∙◌, arith, rules, slice_index, max}
use Rattle.std.specs.Option.{unwrap_or}
use Rattle.std.specs.Prelude.{Option}
use Rattle.std.proofs.lemmas.List.{take_more}
use Rattle.lb_graph.proofs.BestLemmas.{among_more}
use Rattle.lb_graph.proofs.weight.greatest_among.Goals as goal

pub loop-c-preserved : goal.loop-c-preserved
loop-c-preserved c =
    let at = c.loop-c.c-index in
    let e : c.unwrap_or.result ≡ slice_index c.args.best.now (slice_index c.args.calls.now at) =
    c.unwrap_or.ensures ∙ ap (λ (o : Option ℕ). unwrap_or o 0) c.copied.ensures ∙ c.get.ensures.lookup.4 (omega arith) 0
    ∙ ap (λ i. slice_index c.args.best.now i) c.from.ensures in
    let m : c.max-most.result ≡ max c.loop-c.most c.unwrap_or.result = search (rules, c.max-most.ensures) in
    rw (take_more c.args.calls.now at 0 c.loop-c-test.true, m, e)
    (among_more _ _ _ _ c.loop-c.invariant)
