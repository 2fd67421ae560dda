use Rattle.std.proofs.lemmas.Result.{IfOk-weaker, IfErr-weaker}
use Rattle.lb_syntax.specs.Tree.{command_of}
use Rattle.lb_spelling.specs.Grammar.{CommandAt}
use Rattle.lb_text.proofs.Steps.{fails_all}
use Rattle.lb_text.proofs.Calls.{named_then, named_calls}
use Rattle.lb_text.proofs.simple.named.Goals as goal

pub returns-in-Becomes-clause-found : goal.returns-in-Becomes-clause-found
returns-in-Becomes-clause-found c = IfOk-weaker c.assignment.result _ _ (λ r p. named_then c.args.first (CommandAt (command_of r.0)) c.requires (rw c.in-Becomes.is at c.in_ok-token.ensures.found) p) c.assignment.ensures.found

pub returns-in-Becomes-clause-fault : goal.returns-in-Becomes-clause-fault
returns-in-Becomes-clause-fault c = IfErr-weaker c.assignment.result _ _ (λ e p. fails_all e c.requires (rw c.in-Becomes.is at c.in_ok-token.ensures.found) p) c.assignment.ensures.fault

pub returns-in-Comma-clause-found : goal.returns-in-Comma-clause-found
returns-in-Comma-clause-found c = IfOk-weaker c.call_of_targets.result _ _ (λ r p. named_then c.args.first (CommandAt (command_of r.0)) c.requires (rw c.in-Comma.is at c.in_ok-token.ensures.found) p) c.call_of_targets.ensures.found

pub returns-in-Comma-clause-fault : goal.returns-in-Comma-clause-fault
returns-in-Comma-clause-fault c = IfErr-weaker c.call_of_targets.result _ _ (λ e p. fails_all e c.requires (rw c.in-Comma.is at c.in_ok-token.ensures.found) p) c.call_of_targets.ensures.fault

pub returns-in-OpenParen-clause-found : goal.returns-in-OpenParen-clause-found
returns-in-OpenParen-clause-found c = IfOk-weaker c.call.result _ _ (λ r p. named_calls c.args.first (CommandAt (command_of r.0)) c.requires c.new.ensures (rw c.in-OpenParen.is at c.in_ok-token.ensures.found) p) c.call.ensures.found

pub returns-in-OpenParen-clause-fault : goal.returns-in-OpenParen-clause-fault
returns-in-OpenParen-clause-fault c = IfErr-weaker c.call.result _ _ (λ e p. fails_all e c.requires (rw c.in-OpenParen.is at c.in_ok-token.ensures.found) p) c.call.ensures.fault
