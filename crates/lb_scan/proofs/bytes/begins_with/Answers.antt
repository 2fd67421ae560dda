use Rattle.std.proofs.Common.{◌∙◌}
use Rattle.lb_scan.proofs.ByteTests.{starts_begins}
use Rattle.lb_scan.proofs.bytes.begins_with.Goals as goal

pub returns : goal.returns
returns c = c.starts_with.ensures.value ∙ starts_begins c.args.front.now c.args.bytes.now
