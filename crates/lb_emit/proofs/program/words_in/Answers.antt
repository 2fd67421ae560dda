use Rattle.std.proofs.Common.{ap, arith, length}
use Rattle.lb_flat.specs.Placed.{placed_routine}
use Rattle.lb_emit_laws.proofs.SavedLemmas.{saved_few}
use Rattle.lb_emit.specs.InternalFrame.{Framed}
use Rattle.lb_emit.proofs.program.words_in.Goals as goal

pub words_of_function-requires-clause-saved : goal.words_of_function-requires-clause-saved
words_of_function-requires-clause-saved c =
    let e = ap (λ (x : Framed). length x.frame.saved) c.requires.framed in
    omega (arith, e, saved_few (placed_routine c.args.f.now))
