use denote.Param.Send.{sendable}
use Rattle.std.proofs.Crossing.{crosses}
use Rattle.lb_crew.proofs.Crossing.{machine_seat_send, machine_turn_sync}
use Rattle.lb_crew.proofs.racing.work_all.Goals as goal

pub map_vec-requires-send-J : goal.map_vec-requires-send-J
map_vec-requires-send-J g c κs within = search (sendable, crosses, machine_seat_send, machine_turn_sync) depth 20

pub map_vec-requires-send-X : goal.map_vec-requires-send-X
map_vec-requires-send-X g c κs within = search (sendable, crosses, machine_seat_send) depth 20
