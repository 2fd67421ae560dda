use Rattle.std.proofs.Common.{ℕ, sym, subst}
use Rattle.lb_flat.specs.Code.{Executable}
use Rattle.lb_flat.specs.Order.{IsFlatInOrder}
use Rattle.lb_spill_tests.proofs.DoublingOrder.{doubling_in_order}
use Rattle.lb_spill_tests.proofs.doubling.doubled_variable.Goals as goal

pub returns : goal.returns
returns c = subst (λ (p : Executable ℕ). IsFlatInOrder p) (sym c.in_ok-flat.ensures) doubling_in_order
