use Rattle.lb_gen.proofs.WholeLemmas.{large_is}
use Rattle.lb_gen.proofs.program.large_program.Goals as goal

pub returns : goal.returns
returns c = record {
  tree =
      rw (c.in_ok-push-2.ensures.ok, c.in_ok-push.ensures.ok)
      (large_is c.args.seed c.new-draws.result c.numbered_functions.new.draws c.next-first.result c.next-first.new.self c.next-second.result c.next-second.new.self
      c.in_ok-functions.functions c.in_ok-init_function.field-0 c.in_ok-loop_function.field-0 c.new-draws.ensures c.in_ok-functions.ensures
      (record { draw = c.next-first.ensures.draw; state = c.next-first.ensures.state })
      (record { draw = c.next-second.ensures.draw; state = c.next-second.ensures.state })
      c.in_ok-init_function.ensures c.in_ok-loop_function.ensures);
}
