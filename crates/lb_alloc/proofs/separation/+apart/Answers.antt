use Rattle.std.proofs.Common.{◌↔◌, ◌-◌, IsTrue, sym, subst, ◌∙◌}
use Rattle.lb_flat.specs.Located.{place_of}
use Rattle.lb_alloc.specs.InternalSets.{NamesVariables, IsAllApart}
use Rattle.lb_alloc.proofs.BlockLemmas.{rest}
use Rattle.lb_alloc.proofs.SeparationLemmas.{back_one, not_here}
use Rattle.lb_alloc.proofs.separation.+apart.Goals as goal

pub is_block_apart-loop-i-preserved : goal.is_block_apart-loop-i-preserved
is_block_apart-loop-i-preserved t c =
    let all = c.loop-i.invariant in
    let cs = c.as_slice-commands.result.now in
    let next = back_one (place_of c.args.places.now) c.args.set.now c.loop-i.set c.is_command_apart.new.set cs c.loop-i.i c.in-Some.c.now c.in_ok-here.here c.loop-i.apart
    c.loop-i-test.true all.0 c.in-Some.ensures.lookup.1 all.4 c.in_ok-here.ensures.live c.in_ok-here.ensures.apart all.5 in (
      next.0,
      c.is_command_apart.ensures.len ∙ all.1,
      all.2,
      subst (λ n. NamesVariables n (rest cs 0)) (sym c.is_command_apart.ensures.len) all.3,
      next.1,
      subst (λ q. IsTrue q ↔ IsAllApart (place_of c.args.places.now) (rest cs (c.loop-i.i - 1)) c.args.set.now) (not_here c.in_ok-here.here c.loop-i.apart c.if-here.false) next.2,
    )
