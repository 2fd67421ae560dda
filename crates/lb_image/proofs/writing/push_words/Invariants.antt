use Rattle.std.proofs.Common.{◌≡◌, ◌++◌, take}
use Rattle.lb_image.specs.Images.{bytes_of_words}
use Rattle.lb_image.proofs.writing.push_words.Given as goal

abbrev pub invariant-loop-word : goal.invariant-loop-word
invariant-loop-word l = l.bytes.items ≡ l.initial.bytes.items ++ bytes_of_words (take l.word-index l.words)
