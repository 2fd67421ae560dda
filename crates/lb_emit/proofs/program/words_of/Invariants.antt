use Rattle.std.proofs.Common.{◌≡◌, ◌++◌, drop, map}
use Rattle.lb_rv.specs.Table.{word_of}
use Rattle.lb_emit.proofs.program.words_of.Given as goal

-- the words so far, and those of the instructions that are left, are all
abbrev pub invariant-loop-i : goal.invariant-loop-i
invariant-loop-i l = l.words.items ++ map word_of (drop l.i-index l.code) ≡ map word_of l.code
