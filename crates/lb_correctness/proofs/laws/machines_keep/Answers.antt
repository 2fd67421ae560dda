use Rattle.lb_correctness.proofs.MachineLemmas.{machines_keep}
use Rattle.lb_correctness.proofs.laws.machines_keep.Goals as goal

pub returns : goal.returns
returns c = record {
  machines = machines_keep c.booted_stands.ensures c.rows_stand.ensures c.entries_are_bounded.ensures c.events_are_few.ensures
      c.halted_stands_still.ensures c.longer_runs_extend.ensures;
}
