use Rattle.std.proofs.Common.{◌<◌, inl, map, sym, ap, ◌∙◌, subst}
use Rattle.std.proofs.lemmas.List.{get_or-map, length-map}
use Rattle.lb_syntax.specs.declared.tree.Function.{Function}
use Rattle.lb_syntax.specs.Tree.{procedure_of}
use Rattle.lb_check.specs.declared.fault.CheckFault.TheVariants.{Recursion}
use Rattle.lb_check.proofs.CallGraph.{none_recursive, first_recursive, cycle_inside}
use Rattle.lb_check.proofs.call_graph.check_cycles.Goals as goal

pub returns-in-None-clause-settles : goal.returns-in-None-clause-settles
returns-in-None-clause-settles c =
    (none_recursive (map procedure_of c.args.functions.now) c.args.graph.now.calls c.requires (rw c.in-None.is at c.in_ok-first_on_cycle.ensures.none), tt)

pub returns-in_ok-function-in-Some-clause-settles : goal.returns-in_ok-function-in-Some-clause-settles
returns-in_ok-function-in-Some-clause-settles c =
    let p = map procedure_of c.args.functions.now in
    let f = procedure_of c.index-functions-v.result in
    let cycle = rw c.in-Some.is at c.in_ok-first_on_cycle.ensures.found in
    let least = rw c.in-Some.is at c.in_ok-first_on_cycle.ensures.least in
    let inside = cycle_inside p c.args.graph.now.calls c.in-Some.v c.requires cycle in
    let place = subst (λ n. c.in-Some.v < n) (length-map c.args.functions.now procedure_of) inside in
    inl (
      f,
      first_recursive p c.args.graph.now.calls c.in-Some.v f c.requires inside
          (ap procedure_of c.index-functions-v.is ∙ sym (get_or-map procedure_of c.args.functions.now c.in-Some.v c.index-functions-v.result f place)) cycle least,
      ap (λ x. Recursion x) (c.in_ok-function-in-Some.ensures ∙ sym (ap (λ (g : Function). g.name) c.index-functions-v.is)),
    )
