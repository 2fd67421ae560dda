use Rattle.std.proofs.Common.{inl, map, refl, ◌∙◌}
use Rattle.lb_syntax.specs.Tree.{procedure_of}
use Rattle.lb_check.proofs.CallGraph.{stack_need}
use Rattle.lb_check.proofs.call_graph.check_stack.Goals as goal

pub returns-then-bytes-gt-MOST_STACK-clause-over : goal.returns-then-bytes-gt-MOST_STACK-clause-over
returns-then-bytes-gt-MOST_STACK-clause-over c =
    let need = stack_need (map procedure_of c.args.functions.now) c.args.graph.now.calls c.as_slice.result.now c.in_ok-bytes.bytes c.requires.graph
    (c.as_slice.ensures.value ∙ c.in_ok-frames.ensures) c.in_ok-bytes.ensures in
    inl (c.in_ok-bytes.bytes, need, c.if-bytes-gt-MOST_STACK.true, refl)

pub returns-clause-need : goal.returns-clause-need
returns-clause-need c =
    stack_need (map procedure_of c.args.functions.now) c.args.graph.now.calls c.as_slice.result.now c.in_ok-bytes.bytes c.requires.graph
    (c.as_slice.ensures.value ∙ c.in_ok-frames.ensures) c.in_ok-bytes.ensures
