use Rattle.lb_lines.proofs.WordLemmas.{IsWordSoFar}
use Rattle.lb_lines.proofs.digits.word.Given as goal

-- the digits so far are the word
abbrev pub invariant-loop-c : goal.invariant-loop-c
invariant-loop-c l = IsWordSoFar l.digits l.c-index l.word
