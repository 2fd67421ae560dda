use Rattle.std.proofs.Common.{ap, ◌∙◌, ◌+◌, drop, refl, arith}
use Rattle.lb_outcome.specs.Cells.{cells}
use Rattle.lb_outcome.specs.Ram.{with_words}
use Rattle.lb_outcome.proofs.RamLemmas.{words_next}
use Rattle.lb_outcome.proofs.ram.Ram.boot.Goals as goal

pub loop-word-init : goal.loop-word-init
loop-word-init c = record { place = refl; whole = ap (with_words 0 c.args.code.now) c.in_ok-bytes.ensures.zero }

pub loop-word-preserved : goal.loop-word-preserved
loop-word-preserved c =
    let place = c.loop-word.invariant.place in
    record {
      place = omega (arith, place);
      whole = ap (with_words (c.loop-word.at + 4) (drop (c.loop-word.word-index + 1) c.args.code.now)) c.set_word.ensures
          ∙ words_next c.loop-word.at c.loop-word.word-index c.args.code.now (cells c.loop-word.ram) c.loop-word-test.true
          ∙ c.loop-word.invariant.whole;
    }
