use Rattle.std.proofs.Common.{List, length, ap, sym, subst, arith, ◌∙◌}
use Rattle.lb_syntax.specs.Names.{Text}
use Rattle.lb_syntax.specs.Tree.{procedure_of}
use Rattle.lb_flat.specs.InternalFlatten.{HasRoom}
use Rattle.lb_flat.proofs.CountableLemmas.{names_room}
use Rattle.lb_flat.proofs.flattening.flatten_function.Goals as goal

pub new-scope-requires-clause-names : goal.new-scope-requires-clause-names
new-scope-requires-clause-names c =
    let named = c.as_slice.ensures.value ∙ c.in_ok-names.ensures in
    let numbered = c.in_ok-numbers.ensures in
    omega (arith, names_room (procedure_of c.args.f.now) c.as_slice.result.now c.in_ok-numbers.numbers c.requires.countable named numbered.distinct numbered.same)

pub overflow_add-result : goal.overflow_add-result
overflow_add-result c =
    let named = c.as_slice.ensures.value ∙ c.in_ok-names.ensures in
    let numbered = c.in_ok-numbers.ensures in
    let room = names_room (procedure_of c.args.f.now) c.as_slice.result.now c.in_ok-numbers.numbers c.requires.countable named numbered.distinct numbered.same in
    omega (arith, room, ap (λ (l : List Text). length l) c.new-scope.ensures.names, c.first_temporary.ensures, c.depth_of_block-depth.ensures.value)

pub overflow_add-result-2 : goal.overflow_add-result-2
overflow_add-result-2 c =
    let named = c.as_slice.ensures.value ∙ c.in_ok-names.ensures in
    let numbered = c.in_ok-numbers.ensures in
    let room = names_room (procedure_of c.args.f.now) c.as_slice.result.now c.in_ok-numbers.numbers c.requires.countable named numbered.distinct numbered.same in
    omega (arith, room, ap (λ (l : List Text). length l) c.new-scope.ensures.names, c.first_temporary.ensures, c.depth_of_block-depth.ensures.value, c.arguments_of_block.ensures)

pub block-requires : goal.block-requires
block-requires c =
    let f = procedure_of c.args.f.now in
    let named = c.as_slice.ensures.value ∙ c.in_ok-names.ensures in
    let numbered = c.in_ok-numbers.ensures in
    let room = names_room f c.as_slice.result.now c.in_ok-numbers.numbers c.requires.countable named numbered.distinct numbered.same in
    subst (λ (l : List Text). HasRoom (length l) f.body) (sym c.new-scope.ensures.names) room
