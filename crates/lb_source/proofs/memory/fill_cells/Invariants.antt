use Rattle.std.proofs.Common.{◌≡◌, Some}
use Rattle.lb_source.specs.Maps.{with_range}
use Rattle.lb_source.specs.InternalMachine.{memory_of, cell_of}
use Rattle.lb_source.proofs.memory.fill_cells.Given as goal

abbrev pub invariant-loop-i : goal.invariant-loop-i
invariant-loop-i l = memory_of l.cells ≡ with_range l.base l.i (cell_of (Some l.cell)) (memory_of l.initial.cells)
