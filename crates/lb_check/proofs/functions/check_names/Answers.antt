use Rattle.std.proofs.Common.{List, ◌++◌, map, subst}
use Rattle.lb_syntax.specs.Names.{Text}
use Rattle.std.specs.Prelude.{Err}
use Rattle.std.proofs.lemmas.List.{map-append}
use Rattle.std.proofs.lemmas.Result.{err_from_is_err_and}
use Rattle.lb_check.specs.declared.fault.CheckFault.TheVariants.{DuplicateName}
use Rattle.lb_check.specs.Order.{repeated}
use Rattle.lb_check.specs.InternalVerdict.{Tells}
use Rattle.lb_check.proofs.Tell.{tells_same, tells_front}
use Rattle.lb_check.proofs.functions.check_names.Goals as goal

pub returns-in_err-check_own_names : goal.returns-in_err-check_own_names
returns-in_err-check_own_names c =
    let p = err_from_is_err_and c.from_residual.result c.from_residual.ensures.1 in
    let told = DuplicateName c.args.f.now.name in
    let params = repeated c.args.f.now.params in
    let results = repeated c.args.f.now.results in
    rw (p.1, p.2) (tells_same (map told (params ++ results)) (map told params ++ map told results) (Err c.in_err-check_own_names.field-0.0)
    (map-append told params results)
    (tells_front (map told params) (map told results) c.in_err-check_own_names.field-0.0 (subst (λ (xs : List Text). Tells (map told (repeated xs)) (Err c.in_err-check_own_names.field-0.0)) c.as_slice.ensures c.in_err-check_own_names.ensures)))
