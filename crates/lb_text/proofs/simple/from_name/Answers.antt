use Rattle.std.proofs.Common.{refl}
use Rattle.std.proofs.lemmas.Result.{IfOk-weaker, IfErr-weaker}
use Rattle.lb_syntax.specs.declared.tree.Expr.TheVariants as exprs
use Rattle.lb_syntax.specs.declared.tree.Cmd.TheVariants as commands
use Rattle.lb_syntax.specs.Tree.{command_of}
use Rattle.lb_syntax.proofs.TreeFacts.{says_set, says_var}
use Rattle.lb_spelling.specs.Grammar.{CommandAt}
use Rattle.lb_text.proofs.Steps.{fails_all}
use Rattle.lb_text.proofs.Calls.{name_set, name_called}
use Rattle.lb_text.proofs.simple.from_name.Goals as goal

pub returns-in-Semicolon-clause-found : goal.returns-in-Semicolon-clause-found
returns-in-Semicolon-clause-found c =
    let source = exprs.Var c.args.source in
    rw (says_set (commands.Set c.args.target source) c.args.target source refl, says_var source c.args.source refl) (name_set c.args.target c.args.source c.requires (rw c.in-Semicolon.is at c.in_ok-token.ensures.found))

pub returns-in_ok-one-in-OpenParen-clause-found : goal.returns-in_ok-one-in-OpenParen-clause-found
returns-in_ok-one-in-OpenParen-clause-found c = IfOk-weaker c.call.result _ _ (λ r p. name_called c.args.target c.args.source (CommandAt (command_of r.0)) c.requires c.in_ok-one-in-OpenParen.ensures (rw c.in-OpenParen.is at c.in_ok-token.ensures.found) p) c.call.ensures.found

pub returns-in_ok-one-in-OpenParen-clause-fault : goal.returns-in_ok-one-in-OpenParen-clause-fault
returns-in_ok-one-in-OpenParen-clause-fault c = IfErr-weaker c.call.result _ _ (λ e p. fails_all e c.requires (rw c.in-OpenParen.is at c.in_ok-token.ensures.found) p) c.call.ensures.fault
