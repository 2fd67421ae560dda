use Rattle.lb_gen.proofs.DrawLemmas.{next_drawn}
use Rattle.lb_gen.proofs.WholeLemmas.{all_drawn}
use Rattle.lb_gen.proofs.program.numbered_functions.Goals as goal

pub loop-number-preserved : goal.loop-number-preserved
loop-number-preserved c =
    rw c.in_ok-push.ensures.ok
    (next_drawn c.args.draws.now c.loop-number.draws c.draw_function-drawn.new.draws c.loop-number.number c.loop-number.functions c.in_ok-numbered_function.field-0
    c.draw_function-drawn.result c.loop-number.invariant c.draw_function-drawn.ensures c.in_ok-numbered_function.ensures)

pub returns : goal.returns
returns c = all_drawn _ _ c.loop-number.number _ c.loop-number.auto.number-end c.loop-number-test.false c.loop-number.invariant
