use Rattle.std.proofs.Common.{◌≡◌, ◌++◌, take}
use Rattle.lb_image.specs.Images.{bytes_of_words, layout_words}
use Rattle.lb_image.proofs.writing.push_frames.Given as goal

abbrev pub invariant-loop-frame : goal.invariant-loop-frame
invariant-loop-frame l = l.bytes.items ≡ l.initial.bytes.items ++ bytes_of_words (layout_words (take l.frame-index l.frames))
