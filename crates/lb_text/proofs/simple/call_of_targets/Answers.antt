use Rattle.std.proofs.Common.{refl}
use Rattle.std.proofs.lemmas.Result.{IfOk-weaker}
use Rattle.lb_syntax.specs.Tree.{command_of}
use Rattle.lb_spelling.specs.Grammar.{CommandAt}
use Rattle.lb_text.proofs.Calls.{several_read}
use Rattle.lb_text.proofs.simple.call_of_targets.Goals as goal

pub returns-clause-found : goal.returns-clause-found
returns-clause-found c = IfOk-weaker c.call_of.result _ _
    (λ r p. several_read c.args.first c.in_ok-second.second (CommandAt (command_of r.0)) c.requires (rw (c.in_ok-push.ensures.ok, c.in_ok-targets.ensures) refl) c.in_ok-second.ensures.found c.in_ok-targets-2.ensures.found c.in_ok-callee.ensures.found p) c.call_of.ensures.found
