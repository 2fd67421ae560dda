use Rattle.std.proofs.Common.{◌-◌, ◌+◌, ◌++◌, ap, ◌∙◌}
use Rattle.lb_flat.specs.Calls.{callees}
use Rattle.lb_flat.specs.Placed.{placed_routine}
use Rattle.lb_emit_laws.specs.Frames.{only, registers_from, sets_in_routine}
use Rattle.lb_emit.specs.InternalFrame.{one_if}
use Rattle.lb_emit.proofs.CallLemmas.{link_if}
use Rattle.lb_emit.proofs.Sums.{saved_more, saved_are}
use Rattle.lb_emit.proofs.saved.saved_registers.Goals as goal

pub loop-register-preserved : goal.loop-register-preserved
loop-register-preserved c =
    let f = placed_routine c.args.f.now in
    let test = sets_in_routine f in
    let r = c.loop-register.register in
    ap (λ l. l ++ only test (registers_from (r + 1) (32 - (r + 1)))) (c.in_ok-push_if-2.ensures ∙ ap (λ b. c.loop-register.saved ++ one_if b r) c.function_sets.ensures)
    ∙ saved_more test c.loop-register.saved r c.loop-register-test.true
    ∙ c.loop-register.invariant

pub loop-register-init : goal.loop-register-init
loop-register-init c =
    let f = placed_routine c.args.f.now in
    ap (λ l. l ++ only (sets_in_routine f) (registers_from 18 14))
    (c.in_ok-push_if.ensures ∙ ap (λ xs. xs ++ one_if c.block_calls.result 1) c.new-saved.ensures ∙ ap (λ b. one_if b 1) c.block_calls.ensures ∙ link_if (callees f.body))
    ∙ saved_are f
