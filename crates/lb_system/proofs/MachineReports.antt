-- What a machine holds is what its log replays to.
use Rattle.std.proofs.Common.{◌≡◌, ap}
use Rattle.lb_machine.specs.State.{MachineView}
use Rattle.lb_machine.specs.Machines.{IsReplay, MachineContent, replayed}

pub replayed_trace : (m : MachineContent) → IsReplay m → m.trace ≡ (replayed m).trace
replayed_trace m r = ap (λ (s : MachineView). s.trace) r.state
