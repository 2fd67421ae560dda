use Rattle.std.specs.Prelude.{map}
use Rattle.lb_syntax.specs.Tree.{procedure_of}
use Rattle.lb_check.proofs.commands.check_place.Goals as goal

pub returns-in-BlockSize : goal.returns-in-BlockSize
returns-in-BlockSize c = rw c.in-BlockSize.is (c.check_size.ensures (map procedure_of c.args.functions.now))

pub returns-in-Targets : goal.returns-in-Targets
returns-in-Targets c = rw c.in-Targets.is (c.check_targets.ensures (map procedure_of c.args.functions.now))

pub returns-in-Access : goal.returns-in-Access
returns-in-Access c = rw c.in-Access.is (c.check_access.ensures (map procedure_of c.args.functions.now))
