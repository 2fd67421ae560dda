use Rattle.std.proofs.Common.{◌+◌, ◌-◌, ◌*◌, length}
use Rattle.std.specs.Prelude.{map}
use Rattle.lb_syntax.specs.Tree.{command_of}
use Rattle.lb_scan.specs.Tokens.{token_of}
use Rattle.lb_text.proofs.Blocks.{CommandsSoFar}
use Rattle.lb_text.proofs.command.+block.Given as goal

abbrev pub decreases-block : goal.decreases-block
decreases-block l = 10 * (64 - l.depth) + 1

abbrev pub decreases-commands : goal.decreases-commands
decreases-commands l = 10 * (64 - l.depth) + 7

abbrev pub decreases-command : goal.decreases-command
decreases-command l = 10 * (64 - l.depth) + 6

abbrev pub decreases-choice : goal.decreases-choice
decreases-choice l = 10 * (64 - l.depth) + 5

abbrev pub decreases-otherwise : goal.decreases-otherwise
decreases-otherwise l = 10 * (64 - l.depth) + 4

abbrev pub decreases-plain_command : goal.decreases-plain_command
decreases-plain_command l = 10 * (64 - l.depth) + 5

abbrev pub decreases-repetition : goal.decreases-repetition
decreases-repetition l = 10 * (64 - l.depth) + 4

abbrev pub decreases-allocation : goal.decreases-allocation
decreases-allocation l = 10 * (64 - l.depth) + 4

abbrev pub decreases-commands-loop-token : goal.decreases-commands-loop-token
decreases-commands-loop-token l = length l.rest

abbrev pub invariant-commands-loop-token : goal.invariant-commands-loop-token
invariant-commands-loop-token l = CommandsSoFar l.depth (map command_of l.commands) (token_of l.token) l.bytes l.rest
