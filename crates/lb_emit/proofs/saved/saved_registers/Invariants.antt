use Rattle.std.proofs.Common.{◌≡◌, ◌-◌, ◌++◌}
use Rattle.lb_flat.specs.Placed.{placed_routine}
use Rattle.lb_emit_laws.specs.Frames.{only, registers_from, saved_registers, sets_in_routine}
use Rattle.lb_emit.proofs.saved.saved_registers.Given as goal

-- those so far, and those of the registers that are left, are all
abbrev pub invariant-loop-register : goal.invariant-loop-register
invariant-loop-register l =
    let f = placed_routine l.f in
    l.saved ++ only (sets_in_routine f) (registers_from l.register (32 - l.register)) ≡ saved_registers f
