use Rattle.std.proofs.Common.{◌+◌, arith, sym, ap, ◌∙◌, Some}
use Rattle.lb_source.specs.Maps.{Memory, with_range}
use Rattle.lb_source.specs.InternalMachine.{memory_of, cell_of}
use Rattle.lb_source.proofs.MemoryLemmas.{cells_set, fill_next, fill_none}
use Rattle.lb_source.proofs.memory.fill_cells.Goals as goal

pub loop-i-init : goal.loop-i-init
loop-i-init c = sym (fill_none _ _ _)

pub loop-i-preserved : goal.loop-i-preserved
loop-i-preserved c =
    cells_set c.loop-i.cells (c.args.base + c.loop-i.i) c.args.cell (omega arith)
    ∙ ap (λ (m : Memory). with_range (c.args.base + c.loop-i.i) 1 (cell_of (Some c.args.cell)) m) c.loop-i.invariant
    ∙ fill_next c.args.base c.loop-i.i (cell_of (Some c.args.cell)) (memory_of c.args.cells.now)
