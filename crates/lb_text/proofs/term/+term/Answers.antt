use Rattle.std.proofs.Common.{refl}
use Rattle.std.proofs.lemmas.Result.{IfOk-weaker, IfErr-weaker}
use Rattle.lb_syntax.specs.declared.tree.Expr.TheVariants as exprs
use Rattle.lb_syntax.proofs.TreeFacts.{says_literal, says_var}
use Rattle.lb_text.proofs.Tokens.{named_is_name}
use Rattle.lb_text.proofs.Steps.{reads_all, fails_all, nothing_more}
use Rattle.lb_text.proofs.term.+term.Goals as goal

pub term-returns-clause-found : goal.term-returns-clause-found
term-returns-clause-found t c = IfOk-weaker c.term_from.result _ _ (λ r p. reads_all c.requires c.in_ok-token.ensures.found p) c.term_from.ensures.found

pub term-returns-clause-fault : goal.term-returns-clause-fault
term-returns-clause-fault t c = IfErr-weaker c.term_from.result _ _ (λ e p. fails_all e c.requires c.in_ok-token.ensures.found p) c.term_from.ensures.fault

pub term_from-of_spelling-requires : goal.term_from-of_spelling-requires
term_from-of_spelling-requires t c = let p = rw c.in-Name.is at c.requires.took in named_is_name _ _ _ p.takes.stands

pub term_from-returns-in-Number-clause-found : goal.term_from-returns-in-Number-clause-found
term_from-returns-in-Number-clause-found t c = rw (c.in-Number.is, says_literal (exprs.Literal c.in-Number.value) c.in-Number.value refl) (nothing_more _ _ _ c.requires.depth)

pub term_from-returns-in_ok-of_spelling-in-Name-clause-found : goal.term_from-returns-in_ok-of_spelling-in-Name-clause-found
term_from-returns-in_ok-of_spelling-in-Name-clause-found t c = rw (c.in-Name.is, c.in_ok-of_spelling-in-Name.ensures, says_var (exprs.Var c.in-Name.spelling.now) c.in-Name.spelling.now refl) (nothing_more _ _ _ c.requires.depth)
