use Rattle.std.proofs.Common.{map, ap}
use Rattle.std.specs.Prelude.{string_bytes, Err}
use Rattle.std.proofs.lemmas.Result.{err_from_is_err_and}
use Rattle.lb_words.proofs.JobLemmas.{numbers_in_range}
use Rattle.lb_system.specs.Request.{modes}
use Rattle.lb_system.proofs.RefusalLemmas.{words_left}
use Rattle.lb_system.proofs.request.request_of.Goals as goal

pub returns-clause-range : goal.returns-clause-range
returns-clause-range c =
    let r = numbers_in_range modes (map string_bytes c.args.words.now) c.in_ok-job_of.field-0 c.in_ok-job_of.ensures.asked in
    record { events = r.1; some = r.2; few = r.3 }

pub returns-in_err-job_of-clause-refused : goal.returns-in_err-job_of-clause-refused
returns-in_err-job_of-clause-refused c =
    let p = err_from_is_err_and c.from_residual.result c.from_residual.ensures.1 in
    rw (p.1, p.2) (words_left (map string_bytes c.args.words.now) c.in_err-job_of.field-0.0 (λ is. c.in_err-job_of.ensures.usage (ap (λ e. Err e) is)))
