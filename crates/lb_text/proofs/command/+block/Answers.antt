use Rattle.std.proofs.Common.{◌≡◌, ◌∷◌, [], ◌++◌, arith, rules}
use Rattle.std.specs.Prelude.{map}
use Rattle.std.proofs.lemmas.Result.{err_from_is_err_and, IfOk-weaker, IfErr-weaker}
use Rattle.std.proofs.lemmas.List.{map_push}
use Rattle.lb_syntax.specs.Tree.{command_of, block_of}
use Rattle.lb_syntax.proofs.TreeFacts.{says_block, says_empty}
use Rattle.lb_scan.specs.Tokens.{token_of}
use Rattle.lb_text.proofs.Tokens.{named_is_name}
use Rattle.lb_text.proofs.Blocks.{block_read, block_fails, no_commands_yet, one_more_command, commands_fail, commands_end, command_then, no_else, else_read, else_fails, else_fails_behind}
use Rattle.lb_text.proofs.Tokens.{begins, as_commands}
use Rattle.lb_text.proofs.command.+block.Goals as goal

pub block-returns-clause-found : goal.block-returns-clause-found
block-returns-clause-found t c = IfOk-weaker c.commands.result _ _ (λ r p. block_read (block_of r.0) c.requires c.in_ok-rest.ensures.found p) c.commands.ensures.found

pub block-returns-clause-fault : goal.block-returns-clause-fault
block-returns-clause-fault t c = IfErr-weaker c.commands.result _ _ (λ e p. block_fails e c.requires c.in_ok-rest.ensures.found p) c.commands.ensures.fault

pub command-returns : goal.command-returns
command-returns t c = record { found = command_then _ c.in_ok-command.ensures.found c.in_ok-next.ensures.found; fault = tt }

pub commands-loop-token-init : goal.commands-loop-token-init
commands-loop-token-init t c = rw c.new-commands.ensures (no_commands_yet c.requires c.in_ok-token.ensures.found)

pub commands-returns-in-CloseBrace-clause-found : goal.commands-returns-in-CloseBrace-clause-found
commands-returns-in-CloseBrace-clause-found t c = rw (says_block c.loop-token.commands) (commands_end (rw c.in-CloseBrace.is at c.loop-token.invariant))

pub commands-command-requires : goal.commands-command-requires
commands-command-requires t c = (search rules, (c.requires, (c.loop-token.invariant.took, begins c.loop-token.token c.in_default.not-CloseBrace c.loop-token.invariant.took.takes.taken)))

pub commands-returns-in_err-command : goal.commands-returns-in_err-command
commands-returns-in_err-command t c =
    let p = err_from_is_err_and c.from_residual-in_err-command.result c.from_residual-in_err-command.ensures.1 in
    let b = begins c.loop-token.token c.in_default.not-CloseBrace c.loop-token.invariant.took.takes.taken in
    rw (p.1, p.2) (record { found = tt; fault = commands_fail c.in_err-command.field-0.0 b c.loop-token.invariant c.in_err-command.ensures.fault })

pub commands-loop-token-smaller : goal.commands-loop-token-smaller
commands-loop-token-smaller t c = omega (arith, c.in_ok-command.ensures.found.less)

pub commands-loop-token-preserved : goal.commands-loop-token-preserved
commands-loop-token-preserved t c =
    let command = c.in_ok-command.command in
    let b = begins c.loop-token.token c.in_default.not-CloseBrace c.loop-token.invariant.took.takes.taken in
    let pushed : map command_of c.push.new.self ≡ map command_of c.loop-token.commands ++ command_of command ∷ [] = rw c.in_ok-push.ensures.ok (map_push command_of c.loop-token.commands command) in
    rw pushed (one_more_command (command_of command) (token_of c.in_ok-command.next) b c.loop-token.invariant c.in_ok-command.ensures.found)

pub otherwise-returns-in_default : goal.otherwise-returns-in_default
otherwise-returns-in_default t c = record {
  found = no_else _ c.requires (says_empty c.new-commands.result c.new-commands.ensures) (as_commands c.in_ok-token.token c.in_default.not-Else) c.in_ok-token.ensures.found;
  fault = tt;
}

pub otherwise-returns-in_err-no-clause-fault : goal.otherwise-returns-in_err-no-clause-fault
otherwise-returns-in_err-no-clause-fault t c =
    let p = err_from_is_err_and c.from_residual-in_err-no.result c.from_residual-in_err-no.ensures.1 in
    rw (p.1, p.2) (else_fails c.in_err-no.field-0.0 c.requires (rw c.in-Else.is at c.in_ok-token.ensures.found) c.in_err-no.ensures.fault)

pub otherwise-returns-in_err-next-clause-fault : goal.otherwise-returns-in_err-next-clause-fault
otherwise-returns-in_err-next-clause-fault t c =
    let p = err_from_is_err_and c.from_residual-in_err-next.result c.from_residual-in_err-next.ensures.1 in
    rw (p.1, p.2) (else_fails_behind _ c.in_err-next.field-0.0 c.requires (rw c.in-Else.is at c.in_ok-token.ensures.found) c.in_ok-no.ensures.found c.in_err-next.ensures.fault)

pub otherwise-returns-clause-found : goal.otherwise-returns-clause-found
otherwise-returns-clause-found t c = else_read _ c.requires (rw c.in-Else.is at c.in_ok-token.ensures.found) c.in_ok-no.ensures.found c.in_ok-next.ensures.found

pub plain_command-of_spelling-requires : goal.plain_command-of_spelling-requires
plain_command-of_spelling-requires t c = let p = rw c.in-Name.is at c.requires.took in named_is_name _ _ _ p.takes.stands
