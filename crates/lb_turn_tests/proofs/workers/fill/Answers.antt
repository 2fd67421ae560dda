use denote.Param.Send.{sendable}
use Rattle.std.proofs.Crossing.{crosses}
use Rattle.lb_turn_tests.proofs.Crossing.{tape_seat_send, tape_turn_sync}
use Rattle.lb_turn_tests.proofs.workers.fill.Goals as goal

pub join-requires-send-F : goal.join-requires-send-F
join-requires-send-F g c κs within = search (sendable, crosses, tape_seat_send, tape_turn_sync) depth 20

pub join-requires-send-A : goal.join-requires-send-A
join-requires-send-A g c κs within = search (sendable, crosses, tape_seat_send) depth 20
