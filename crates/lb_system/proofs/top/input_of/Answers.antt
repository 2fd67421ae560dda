use Rattle.std.proofs.Common.{ap}
use Rattle.std.specs.Prelude.{Err}
use Rattle.std.proofs.lemmas.Result.{err_from_is_err_and}
use Rattle.lb_system.specs.Answers.{port}
use Rattle.lb_system.proofs.RefusalLemmas.{input_left}
use Rattle.lb_system.proofs.top.input_of.Goals as goal

pub returns-in_err-read_all-clause-refused : goal.returns-in_err-read_all-clause-refused
returns-in_err-read_all-clause-refused g c =
    let p = err_from_is_err_and c.from_residual.result c.from_residual.ensures.1 in
    let source = port g.I.Source.left g.I.Source.faults c.args.input.now c.read_all.new.input in
    let told = c.in_err-read_all.ensures in
    rw (p.1, p.2) (input_left source c.in_err-read_all.field-0.0 (λ is. told.read (ap (λ e. Err e) is)) (λ is. told.cause (ap (λ e. Err e) is)) (λ is. told.too_long (ap (λ e. Err e) is))
    (λ is. told.memory (ap (λ e. Err e) is)))
