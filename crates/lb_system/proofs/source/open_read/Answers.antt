use Rattle.std.proofs.Common.{◌≡◌, List, length, map, sym, ap, subst, ◌∙◌, ◌∷◌, arith}
use Rattle.std.proofs.lemmas.Result.{err_from_is_err_and}
use Rattle.lb_sections.specs.Sections.{seen, part_at}
use Rattle.lb_words.specs.declared.job.Job.{Job}
use Rattle.lb_system.specs.Questions.{Question, Sections, Grammar, source}
use Rattle.lb_system.specs.InternalAnswers.{IsRefusalOf, LeavesGrammar}
use Rattle.lb_system.proofs.AskLemmas.{grammar_refused}
use Rattle.lb_system.proofs.SourceLemmas.{source_short}
use Rattle.lb_system.proofs.source.open_read.Goals as goal

pub read-requires : goal.read-requires
read-requires c =
    let list = ap (map seen) c.deref.ensures.value ∙ c.in_ok-list.ensures.list in
    let text : c.section_at-source.result.text.now ≡ source c.args.input.now = ap (λ s. s.text) (c.section_at-source.ensures ∙ ap (part_at 0) list) in
    omega (arith, ap length text, source_short c.args.input.now, c.requires.short)

pub returns-in_err-list-clause-refused : goal.returns-in_err-list-clause-refused
returns-in_err-list-clause-refused c =
    let p = err_from_is_err_and c.from_residual.result c.from_residual.ensures.1 in
    rw (p.1) (subst (λ r. (job : Job) (qs : List Question) → IsRefusalOf (Sections c.args.most ∷ Grammar ∷ qs) job c.args.input.now r) (sym p.2)
    (λ job qs. c.in_err-list.ensures.refused job (Grammar ∷ qs)))

pub returns-in_err-program-clause-refused : goal.returns-in_err-program-clause-refused
returns-in_err-program-clause-refused c =
    let p = err_from_is_err_and c.from_residual-in_err-program.result c.from_residual-in_err-program.ensures.1 in
    rw (p.1) (subst (λ r. (job : Job) (qs : List Question) → IsRefusalOf (Sections c.args.most ∷ Grammar ∷ qs) job c.args.input.now r) (sym p.2) (λ job qs.
    let list = ap (map seen) c.deref.ensures.value ∙ c.in_ok-list.ensures.list in
    let text : c.section_at-source.result.text.now ≡ source c.args.input.now = ap (λ s. s.text) (c.section_at-source.ensures ∙ ap (part_at 0) list) in
    let left = subst (λ t. LeavesGrammar t c.in_err-program.field-0.0) text c.in_err-program.ensures.refused in
    grammar_refused c.args.most qs job c.args.input.now c.in_err-program.field-0.0 c.in_ok-list.ensures.few left))
