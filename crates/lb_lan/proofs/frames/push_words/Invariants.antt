use Rattle.std.proofs.Common.{◌≡◌, ◌*◌, ◌++◌, drop}
use Rattle.lb_lan.specs.Frames.{words_of}
use Rattle.lb_lan.proofs.frames.push_words.Given as goal

-- the words so far and those that are left
abbrev pub invariant-loop-n : goal.invariant-loop-n
invariant-loop-n l = l.queue ++ words_of (drop (4 * l.n) l.bytes) ≡ l.initial.queue ++ words_of l.bytes
