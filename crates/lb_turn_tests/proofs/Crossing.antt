-- The small machine, its seats and its workers may be sent, and its turn may be shared.
use denote.Param.Send.{IsSend, IsSync, sendable}
use denote.Plain.{UInt}
use mir.Syntax.{w32}
use Rattle.std.proofs.Crossing.{crosses}
use Rattle.lb_turn.proofs.Crossing.{seat_send, turn_sync}
use Rattle.lb_turn.specs.contracts.seat.Seat as seat
use Rattle.lb_turn.specs.contracts.turn.Turn as turn
use Rattle.lb_turn_tests.specs.contracts.tape.Tape as tape
use Rattle.lb_turn_tests.specs.contracts.tape.NotFired as reason
use Rattle.lb_turn_tests.specs.contracts.tape.TapeActs.TheImpl as acts

tape_send : IsSend tape.the_row
tape_send = search (sendable, crosses) depth 20

reason_send : IsSend reason.the_row
reason_send = search (sendable, crosses) depth 20

pub tape_seat_send : IsSend (seat.the_row tape.the_row (UInt w32) reason.the_row acts.ghosts)
tape_seat_send = seat_send tape.the_row (UInt w32) reason.the_row acts.ghosts tape_send reason_send

pub tape_turn_sync : IsSync (turn.the_row tape.the_row (UInt w32) reason.the_row acts.ghosts)
tape_turn_sync = turn_sync tape.the_row (UInt w32) reason.the_row acts.ghosts tape_send reason_send
