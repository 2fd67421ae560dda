use Rattle.std.proofs.Common.{◌≡◌, ◌≤◌, ◌+◌, ◌-◌, vec_len}
use Rattle.std.specs.Io.KnownBytes.{Consumes}
use Rattle.lb_ports.proofs.whole.read_all.Given as goal

abbrev pub invariant-loop-count : goal.invariant-loop-count
invariant-loop-count g l = record {
  steady : g.I.Source.faults l.input ≡ g.I.Source.faults l.fn.input;
  within : vec_len l.bytes ≤ l.limit;
  taken : Consumes (g.I.Source.left l.fn.input) (g.I.Source.left l.input) l.bytes.items;
}

abbrev pub decreases-loop-count : goal.decreases-loop-count
decreases-loop-count g l = l.limit + 1 - vec_len l.bytes
