use Rattle.std.proofs.Common.{◌≡◌, ◌∷◌, [], ◌++◌}
use Rattle.std.specs.Prelude.{map}
use Rattle.std.proofs.lemmas.Result.{err_from_is_err_and}
use Rattle.std.proofs.lemmas.List.{map_push}
use Rattle.lb_syntax.specs.Tree.{procedure_of}
use Rattle.lb_text.proofs.Functions.{one_more_function, function_less, function_fails, functions_end}
use Rattle.lb_text.proofs.program.functions.Goals as goal

pub returns-in_err-function-clause-fault : goal.returns-in_err-function-clause-fault
returns-in_err-function-clause-fault c =
    let p = err_from_is_err_and c.from_residual-in_err-function.result c.from_residual-in_err-function.ensures.1 in
    rw (p.1, p.2) (function_fails c.in_err-function.field-0.0 c.loop-functions.invariant (rw c.in-Some.is at c.in_ok-after.ensures.found) c.in_err-function.ensures.fault)

pub loop-functions-smaller : goal.loop-functions-smaller
loop-functions-smaller c = function_less (rw c.in-Some.is at c.in_ok-after.ensures.found) c.in_ok-function.ensures.found

pub loop-functions-preserved : goal.loop-functions-preserved
loop-functions-preserved c =
    let function = c.in_ok-function.function in
    let pushed : map procedure_of c.push.new.self ≡ map procedure_of c.loop-functions.functions ++ procedure_of function ∷ [] = rw c.in_ok-push.ensures.ok (map_push procedure_of c.loop-functions.functions function) in
    rw pushed (one_more_function (procedure_of function) c.loop-functions.invariant (rw c.in-Some.is at c.in_ok-after.ensures.found) c.in_ok-function.ensures.found)

pub returns-clause-found : goal.returns-clause-found
returns-clause-found c = functions_end c.loop-functions.invariant (rw c.in_default.is at c.in_ok-after.ensures.found)
