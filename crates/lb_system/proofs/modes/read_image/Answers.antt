use Rattle.std.proofs.Common.{true, sym, subst}
use Rattle.std.proofs.lemmas.Result.{err_from_is_err_and}
use Rattle.lb_system.specs.Questions.{listed}
use Rattle.lb_system.specs.InternalAnswers.{IsRefusalOf, without_image}
use Rattle.lb_system.proofs.AskLemmas.{image_refused}
use Rattle.lb_system.proofs.modes.read_image.Goals as goal

pub returns-in_err-from_bytes-clause-refused : goal.returns-in_err-from_bytes-clause-refused
returns-in_err-from_bytes-clause-refused c =
    let p = err_from_is_err_and c.from_residual.result c.from_residual.ensures.1 in
    rw (p.1) (λ job. subst (λ f. IsRefusalOf (listed true) job c.args.input.now (without_image f)) (sym p.2)
    (image_refused job c.args.input.now c.in_err-from_bytes.field-0.0 c.in_err-from_bytes.ensures.place c.in_err-from_bytes.ensures.only))
