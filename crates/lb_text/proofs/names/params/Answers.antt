use Rattle.std.proofs.Common.{◌∷◌, [], ◌∙◌, ap}
use Rattle.std.proofs.lemmas.Result.{IfOk-weaker, IfErr-weaker}
use Rattle.lb_syntax.specs.Names.{Text}
use Rattle.lb_text.proofs.Tokens.{named_is_name}
use Rattle.lb_text.proofs.Lists.{no_params, some_params, params_fail}
use Rattle.lb_text.proofs.names.params.Goals as goal

pub of_spelling-requires : goal.of_spelling-requires
of_spelling-requires c = let p = rw c.in-Name.is at c.in_ok-token.ensures.found in named_is_name _ _ _ p.stands

pub returns-in-CloseParen-clause-found : goal.returns-in-CloseParen-clause-found
returns-in-CloseParen-clause-found c = rw c.new.ensures (no_params c.requires (rw c.in-CloseParen.is at c.in_ok-token.ensures.found))

pub returns-in_ok-names-in-Name-clause-found : goal.returns-in_ok-names-in-Name-clause-found
returns-in_ok-names-in-Name-clause-found c = IfOk-weaker c.more_names.result _ _
    (λ r p. some_params c.requires (rw c.in-Name.is at c.in_ok-token.ensures.found) (c.in_ok-names-in-Name.ensures ∙ ap (λ (x : Text). x ∷ []) c.in_ok-of_spelling-in-Name.ensures) p) c.more_names.ensures.found

pub returns-in_ok-names-in-Name-clause-fault : goal.returns-in_ok-names-in-Name-clause-fault
returns-in_ok-names-in-Name-clause-fault c = IfErr-weaker c.more_names.result _ _ (λ e p. params_fail e c.requires (rw c.in-Name.is at c.in_ok-token.ensures.found) p) c.more_names.ensures.fault
