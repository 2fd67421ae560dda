use Rattle.std.proofs.Common.{List, ◌∷◌, ◌++◌, sym, subst}
use Rattle.std.proofs.lemmas.Result.{err_from_is_err_and}
use Rattle.lb_syntax.specs.Tree.{program_of}
use Rattle.lb_words.specs.declared.job.Job.{Job}
use Rattle.lb_system.specs.Questions.{Question, Sections, Rules, checked}
use Rattle.lb_system.specs.InternalAnswers.{IsRefusalOf}
use Rattle.lb_system.proofs.AskLemmas.{rules_refused}
use Rattle.lb_system.proofs.source.open_checked.Goals as goal

pub returns-in_err-program-clause-refused : goal.returns-in_err-program-clause-refused
returns-in_err-program-clause-refused c =
    let p = err_from_is_err_and c.from_residual.result c.from_residual.ensures.1 in
    rw (p.1) (subst (λ r. (job : Job) (qs : List Question) → IsRefusalOf (Sections c.args.most ∷ (checked ++ qs)) job c.args.input.now r) (sym p.2)
    (λ job qs. c.in_err-program.ensures.refused job (Rules ∷ qs)))

pub returns-in_err-checked-clause-refused : goal.returns-in_err-checked-clause-refused
returns-in_err-checked-clause-refused c =
    let p = err_from_is_err_and c.from_residual-in_err-checked.result c.from_residual-in_err-checked.ensures.1 in
    rw (p.1) (subst (λ r. (job : Job) (qs : List Question) → IsRefusalOf (Sections c.args.most ∷ (checked ++ qs)) job c.args.input.now r) (sym p.2) (λ job qs.
    rules_refused c.args.most qs job c.args.input.now (program_of c.in_ok-program.program) c.in_err-checked.field-0.0 c.in_ok-program.ensures.opened c.in_err-checked.ensures.refused))
