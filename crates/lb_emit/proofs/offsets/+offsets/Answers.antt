use Rattle.std.proofs.Common.{◌+◌, ◌++◌, sum, ap, sym, ◌∙◌, arith, append_assoc}
use Rattle.lb_flat.specs.declared.places.Place.{Place}
use Rattle.lb_flat.specs.Code.{Code, sites}
use Rattle.lb_flat.specs.Placed.{placed_block, placed_command}
use Rattle.lb_emit_laws.specs.Frames.{offsets_from}
use Rattle.lb_emit.proofs.Rest.{rest, rest_at}
use Rattle.lb_emit.proofs.Sums.{sum_both, offsets_both}
use Rattle.lb_emit.proofs.offsets.+offsets.Goals as goal

pub push_two-returns-clause-offsets : goal.push_two-returns-clause-offsets
push_two-returns-clause-offsets t c =
    let ns = sites (placed_block c.args.first.now) in
    let ms = sites (placed_block c.args.second.now) in
    c.in_ok-end.ensures.offsets
    ∙ ap (λ l. l ++ offsets_from c.in_ok-middle.middle ms) c.in_ok-middle.ensures.offsets
    ∙ append_assoc c.args.offsets.now (offsets_from c.args.at ns) (offsets_from c.in_ok-middle.middle ms)
    ∙ ap (λ k. c.args.offsets.now ++ (offsets_from c.args.at ns ++ offsets_from k ms)) c.in_ok-middle.ensures.end
    ∙ ap (λ l. c.args.offsets.now ++ l) (sym (offsets_both c.args.at ns ms))

pub push_offsets-loop-c-preserved : goal.push_offsets-loop-c-preserved
push_offsets-loop-c-preserved t c =
    let cs = c.as_slice-c-items.result.now in
    let i = c.loop-c.c-index in
    let next = rest_at cs i c.c-item.result c.loop-c-test.true c.c-item.is in
    let ns = sites (placed_command c.c-item.result) in
    let ms = sites (rest cs (i + 1)) in
    let whole = ap (λ (b : Code Place). sites b) next in
    record {
      offsets = ap (λ l. l ++ offsets_from c.in_ok-end.end ms) c.in_ok-end.ensures.offsets
          ∙ append_assoc c.loop-c.offsets (offsets_from c.loop-c.end ns) (offsets_from c.in_ok-end.end ms)
          ∙ ap (λ k. c.loop-c.offsets ++ (offsets_from c.loop-c.end ns ++ offsets_from k ms)) c.in_ok-end.ensures.end
          ∙ ap (λ l. c.loop-c.offsets ++ l) (sym (offsets_both c.loop-c.end ns ms))
          ∙ ap (λ l. c.loop-c.offsets ++ offsets_from c.loop-c.end l) (sym whole)
          ∙ c.loop-c.invariant.offsets;
      end = omega (arith, c.in_ok-end.ensures.end, sum_both ns ms, ap sum whole, c.loop-c.invariant.end);
    }
