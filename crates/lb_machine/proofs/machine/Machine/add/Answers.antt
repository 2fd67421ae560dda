use Rattle.std.proofs.Common.{sym, subst, ◌∙◌, ap}
use Rattle.std.specs.Vec.{vec_capacity}
use Rattle.lb_machine.specs.Machines.{MachineContent}
use Rattle.lb_machine.specs.Refusals.{Fires}
use Rattle.lb_machine.proofs.MachineLemmas.{enabled_there, kept_added, retired_left, room_left, same_fixed}
use Rattle.lb_machine.proofs.machine.Machine.add.Goals as goal

pub fire-requires-clause-enabled : goal.fire-requires-clause-enabled
fire-requires-clause-enabled c =
    enabled_there c.self.inside.system c.self.inside.entry c.self.inside.max_events _ _ c.args.entry c.self.invariant
    (subst (λ (m : MachineContent). Fires m.fixed m.log c.args.entry.kind) (sym c.self.view_is) c.requires.fires)

pub fire-requires-clause-retired : goal.fire-requires-clause-retired
fire-requires-clause-retired c =
    retired_left c.self.inside.system c.self.inside.entry c.self.inside.max_events _ _ c.args.entry c.self.invariant
    (subst (λ (m : MachineContent). Fires m.fixed m.log c.args.entry.kind) (sym c.self.view_is) c.requires.fires)

pub fire-requires-clause-room : goal.fire-requires-clause-room
fire-requires-clause-room c =
    room_left c.self.inside.system c.self.inside.entry c.self.inside.max_events _ _ c.args.entry c.self.invariant
    (subst (λ (m : MachineContent). Fires m.fixed m.log c.args.entry.kind) (sym c.self.view_is) c.requires.fires)

pub invariant_of-self : goal.invariant_of-self
invariant_of-self c =
    rw (c.push_reserved.ensures.items, c.push_reserved.ensures.capacity)
    (kept_added c.self.inside.system c.fire.new.self c.self.inside.entry c.self.inside.max_events (vec_capacity c.self.inside.log)
    c.self.inside.log.items c.args.entry c.self.invariant
    (subst (λ (m : MachineContent). Fires m.fixed m.log c.args.entry.kind) (sym c.self.view_is) c.requires.fires) c.fire.ensures.row
    c.requires.worker c.fire.ensures.room)

pub returns-clause-same : goal.returns-clause-same
returns-clause-same c =
    same_fixed c.self.inside.system c.fire.new.self c.self.inside.entry c.self.inside.max_events (vec_capacity c.self.inside.log)
    c.self.inside.log.items c.args.entry c.self.invariant
    (subst (λ (m : MachineContent). Fires m.fixed m.log c.args.entry.kind) (sym c.self.view_is) c.requires.fires) c.fire.ensures.row
    ∙ ap (λ (m : MachineContent). m.fixed) c.self.view_is
