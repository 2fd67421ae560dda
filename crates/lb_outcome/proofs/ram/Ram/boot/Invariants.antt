use Rattle.std.proofs.Common.{◌≡◌, ◌*◌, drop}
use Rattle.lb_outcome.specs.Cells.{cells}
use Rattle.lb_outcome.specs.Ram.{with_words, boot_ram}
use Rattle.lb_outcome.proofs.ram.Ram.boot.Given as goal

-- the words that are left are still to be written
abbrev pub invariant-loop-word : goal.invariant-loop-word
invariant-loop-word l = record {
  place : l.at ≡ 4 * l.word-index;
  whole : with_words l.at (drop l.word-index l.code) (cells l.ram) ≡ boot_ram l.code;
}
