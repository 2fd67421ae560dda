use Rattle.lb_board.specs.Script.{IsScript}
use Rattle.lb_board_testkit.proofs.frames.script.Given as goal

-- the frames so far are a script
abbrev pub invariant-loop-word : goal.invariant-loop-word
invariant-loop-word l = IsScript l.frames.items
