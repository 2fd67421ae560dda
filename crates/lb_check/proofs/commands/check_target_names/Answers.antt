use Rattle.std.proofs.Common.{sym, ◌∙◌}
use Rattle.lb_check.specs.declared.fault.CheckFault.TheVariants.{DuplicateTarget}
use Rattle.lb_check.specs.Order.{repeated}
use Rattle.lb_check.proofs.Tell.{none_told, first_told}
use Rattle.lb_check.proofs.commands.check_target_names.Goals as goal

pub returns-in-None : goal.returns-in-None
returns-in-None c = none_told (DuplicateTarget c.args.function.now) (repeated c.args.targets.now) (sym c.in-None.is ∙ c.in_ok-first_repeated.ensures)

pub returns-in_ok-function-in-Some : goal.returns-in_ok-function-in-Some
returns-in_ok-function-in-Some c =
    rw c.in_ok-function-in-Some.ensures (first_told (DuplicateTarget c.args.function.now) (repeated c.args.targets.now) c.in-Some.name (sym c.in-Some.is ∙ c.in_ok-first_repeated.ensures))
