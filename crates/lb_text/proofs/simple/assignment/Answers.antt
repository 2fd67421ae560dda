use Rattle.std.proofs.lemmas.Result.{IfOk-weaker, IfErr-weaker}
use Rattle.lb_syntax.specs.Tree.{command_of}
use Rattle.lb_spelling.specs.Grammar.{CommandAt}
use Rattle.lb_text.proofs.Tokens.{named_is_name}
use Rattle.lb_text.proofs.Steps.{fails_all}
use Rattle.lb_text.proofs.Calls.{device_assigned, name_assigned, term_assigned, term_fails}
use Rattle.lb_text.proofs.Tokens.{source_coming}
use Rattle.lb_text.proofs.simple.assignment.Goals as goal

pub of_spelling-requires : goal.of_spelling-requires
of_spelling-requires c = let p = rw c.in-Name.is at c.in_ok-token.ensures.found in named_is_name _ _ _ p.stands

pub returns-in_ok-one-in-Device-clause-found : goal.returns-in_ok-one-in-Device-clause-found
returns-in_ok-one-in-Device-clause-found c = IfOk-weaker c.call_of.result _ _ (λ r p. device_assigned c.args.target c.in-Device.action (CommandAt (command_of r.0)) c.requires c.in_ok-one-in-Device.ensures (rw c.in-Device.is at c.in_ok-token.ensures.found) p) c.call_of.ensures.found

pub returns-in_ok-one-in-Device-clause-fault : goal.returns-in_ok-one-in-Device-clause-fault
returns-in_ok-one-in-Device-clause-fault c = IfErr-weaker c.call_of.result _ _ (λ e p. fails_all e c.requires (rw c.in-Device.is at c.in_ok-token.ensures.found) p) c.call_of.ensures.fault

pub returns-in_ok-of_spelling-in-Name-clause-found : goal.returns-in_ok-of_spelling-in-Name-clause-found
returns-in_ok-of_spelling-in-Name-clause-found c = IfOk-weaker c.from_name.result _ _ (λ r p. name_assigned c.args.target c.target.inside.bytes.items c.in-Name.spelling.now c.in_ok-of_spelling-in-Name.field-0 (CommandAt (command_of r.0)) c.requires c.target.view_is c.in_ok-of_spelling-in-Name.ensures (rw c.in-Name.is at c.in_ok-token.ensures.found) p) c.from_name.ensures.found

pub returns-in_ok-of_spelling-in-Name-clause-fault : goal.returns-in_ok-of_spelling-in-Name-clause-fault
returns-in_ok-of_spelling-in-Name-clause-fault c = IfErr-weaker c.from_name.result _ _ (λ e p. fails_all e c.requires (rw c.in-Name.is at c.in_ok-token.ensures.found) p) c.from_name.ensures.fault

pub returns-in_default : goal.returns-in_default
returns-in_default c = let i = source_coming c.in_ok-token.token c.in_default.not-Name c.in_default.not-Device c.in_ok-token.ensures.found.taken in record {
  found = IfOk-weaker c.from_term.result _ _ (λ r p. term_assigned c.args.target (CommandAt (command_of r.0)) c.requires i c.in_ok-token.ensures.found p) c.from_term.ensures.found;
  fault = IfErr-weaker c.from_term.result _ _ (λ e p. term_fails e c.requires i c.in_ok-token.ensures.found p) c.from_term.ensures.fault;
}
