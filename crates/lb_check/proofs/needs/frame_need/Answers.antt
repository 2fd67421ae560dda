use Rattle.std.proofs.Common.{arith}
use Rattle.lb_syntax.specs.Tree.{procedure_of}
use Rattle.lb_check.proofs.NameCounts.{few_in_function}
use Rattle.lb_check.proofs.needs.frame_need.Goals as goal

pub overflow_add-words : goal.overflow_add-words
overflow_add-words c = let few = few_in_function (procedure_of c.args.f.now) in omega (arith, few, c.in_ok-words.ensures.few)

pub overflow_add-words-2 : goal.overflow_add-words-2
overflow_add-words-2 c = let few = few_in_function (procedure_of c.args.f.now) in omega (arith, few, c.in_ok-words.ensures.few)

pub overflow_mul-result : goal.overflow_mul-result
overflow_mul-result c = let few = few_in_function (procedure_of c.args.f.now) in omega (arith, few, c.in_ok-words.ensures.few)

pub overflow_add-result : goal.overflow_add-result
overflow_add-result c = let few = few_in_function (procedure_of c.args.f.now) in omega (arith, few, c.in_ok-words.ensures.few)
