use Rattle.std.proofs.lemmas.Int.{of_z-to_z}
use Rattle.std.specs.Int.{w32}
use Rattle.lb_word.proofs.ResultLemmas.{div_of_cast, div_of_zero}
use Rattle.lb_word.proofs.div.Goals as goal

pub returns-then-b-eq0-clause-value : goal.returns-then-b-eq0-clause-value
returns-then-b-eq0-clause-value c = cc (div_of_zero c.args.a c.args.b c.if-b-eq0.true)

pub returns-clause-value : goal.returns-clause-value
returns-clause-value c =
    cc (div_of_cast c.args.a c.args.b c.ranges.a.fits c.ranges.b.fits c.if-b-eq0.false, of_z-to_z w32 c.args.a c.ranges.a.fits, of_z-to_z w32 c.args.b c.ranges.b.fits)
