use Rattle.std.proofs.Common.{arith, sym, subst, refl}
use mathlib.Core.Logic.{dite}
use native.Mathlib.Decide.{ℕ_discrete}
use Rattle.lb_turn.specs.Closing.{HasNumber}
use Rattle.lb_turn.proofs.closing.first_missing.Goals as goal

pub loop-number-preserved : goal.loop-number-preserved
loop-number-preserved g c = λ n h. dite (ℕ_discrete n c.loop-number.number)
    (λ e. subst (HasNumber c.args.seats.now) (sym e) (c.if-not-has_number.ensures.0 refl))
    (λ ne. c.loop-number.invariant n (omega arith))
