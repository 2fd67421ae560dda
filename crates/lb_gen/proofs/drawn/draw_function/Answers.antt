use Rattle.lb_gen.proofs.DrawLemmas.{seven_drawn}
use Rattle.lb_gen.proofs.drawn.draw_function.Goals as goal

pub returns : goal.returns
returns c = λ seed j h.
    rw (c.operation_of.ensures, c.turns_of.ensures, c.operation_of-2.ensures, c.operation_of-3.ensures)
    (seven_drawn seed j c.args.draws.now c.next.result c.next.new.self c.next-2.result c.next-2.new.self c.next-3.result c.next-3.new.self
    c.next-4.result c.next-4.new.self c.next-5.result c.next-5.new.self c.next-6.result c.next-6.new.self c.next-7.result c.next-7.new.self h
    (record { draw = c.next.ensures.draw; state = c.next.ensures.state })
    (record { draw = c.next-2.ensures.draw; state = c.next-2.ensures.state })
    (record { draw = c.next-3.ensures.draw; state = c.next-3.ensures.state })
    (record { draw = c.next-4.ensures.draw; state = c.next-4.ensures.state })
    (record { draw = c.next-5.ensures.draw; state = c.next-5.ensures.state })
    (record { draw = c.next-6.ensures.draw; state = c.next-6.ensures.state })
    (record { draw = c.next-7.ensures.draw; state = c.next-7.ensures.state }))
