-- A seat moves to another thread, and threads share a turn, where the value and the reasons may be sent.
use denote.RattleType.{RattleType}
use denote.Param.Send.{IsSend, IsSync, sendable, part_keyless}
use Rattle.std.proofs.Crossing.{crosses}
use Rattle.atomic_table.specs.contracts.shared.Seat as place
use Rattle.atomic_table.proofs.shared.Seat.TheSendSync.{the_send as place_send}
use Rattle.atomic_table.proofs.shared.Shared.TheSendSync.{the_sync as shared_sync, the_send as shared_send}
use Rattle.atomic_table.proofs.send_lease.SendLease.TheSendSync.{the_sync as lease_sync, the_send as lease_send}
use Rattle.lb_turn.specs.declared.acts.Acts.{Ghosts}
use Rattle.lb_turn.specs.contracts.seat.Seat as seat
use Rattle.lb_turn.specs.contracts.table.Held as held
use Rattle.lb_turn.specs.contracts.turn.Turn as turn

pub held_send : (M W : RattleType) → IsSend M → IsSend W → IsSend (held.the_row M W)
held_send M W m w = search (sendable, crosses) depth 12

-- a seat may be sent
pub seat_send : (M F W : RattleType) (g : Ghosts M.Denot F.Denot W.Denot) → IsSend M → IsSend W
    → IsSend (seat.the_row M F W g)
seat_send M F W g m w = search (sendable, crosses, held_send, place_send) depth 20

place_sync : (S V : RattleType) → IsSend S → IsSync (place.the_row S V)
place_sync S V s = record { shared = λ d b o κ q. part_keyless (place.the_row S V) (place_send S V s) q d b o }

-- a turn may be shared
pub turn_sync : (M F W : RattleType) (g : Ghosts M.Denot F.Denot W.Denot) → IsSend M → IsSend W
    → IsSync (turn.the_row M F W g)
turn_sync M F W g m w =
    search (sendable, crosses, held_send, place_send, place_sync, shared_sync, lease_sync) depth 20

-- a turn may be sent
pub turn_send : (M F W : RattleType) (g : Ghosts M.Denot F.Denot W.Denot) → IsSend M → IsSend W
    → IsSend (turn.the_row M F W g)
turn_send M F W g m w =
    search (sendable, crosses, held_send, place_send, shared_send, lease_send) depth 20
