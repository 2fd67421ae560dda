use Rattle.std.proofs.Common.{◌≡◌, ◌++◌, take}
use Rattle.std.specs.List.{flat_map}
use Rattle.lb_system.specs.Report.{site_part}
use Rattle.lb_system.proofs.report.append_sites.Given as goal

abbrev pub invariant-loop-offset : goal.invariant-loop-offset
invariant-loop-offset l = l.text.items ≡ l.initial.text.items ++ flat_map site_part (take l.offset-index l.sites)
