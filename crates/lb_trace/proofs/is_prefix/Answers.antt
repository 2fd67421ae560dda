use Rattle.std.proofs.Common.{rules}
use Rattle.lb_trace.proofs.PrefixTest.{starts_with_prefix}
use Rattle.lb_trace.proofs.is_prefix.Goals as goal

pub returns : goal.returns
returns c = search (rules, starts_with_prefix)
