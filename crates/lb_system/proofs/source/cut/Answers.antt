use Rattle.std.proofs.Common.{sym, subst, ◌∷◌}
use Rattle.std.proofs.lemmas.Result.{err_from_is_err_and}
use Rattle.lb_system.specs.Questions.{Sections}
use Rattle.lb_system.specs.InternalAnswers.{IsRefusalOf, without_image}
use Rattle.lb_system.proofs.AskLemmas.{cut_refused}
use Rattle.lb_system.proofs.source.cut.Goals as goal

pub returns-in_err-sections_of-clause-refused : goal.returns-in_err-sections_of-clause-refused
returns-in_err-sections_of-clause-refused c =
    let p = err_from_is_err_and c.from_residual.result c.from_residual.ensures.1 in
    rw (p.1) (λ job qs. subst (λ f. IsRefusalOf (Sections c.args.most ∷ qs) job c.args.input.now (without_image f)) (sym p.2)
    (cut_refused c.args.most qs job c.args.input.now c.in_err-sections_of.field-0.0 c.requires.some c.in_err-sections_of.ensures.refused))
