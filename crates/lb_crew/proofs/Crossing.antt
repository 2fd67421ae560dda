-- A machine's seats may be sent to another thread, and threads may share its turn.
use denote.Param.Send.{IsSend, IsSync, enum_send, recorded_send, sendable}
use denote.Builtin.{u32}
use denote.Enum.Enum.{Enum}
use denote.Enum.Declared.{shape}
use denote.Plain.{Boolean, UInt}
use denote.Signed.{SInt}
use mir.Syntax.{w8, w32}
use Rattle.std.proofs.Crossing.{crosses}
use Rattle.std.specs.contracts.option.Option as option
use Rattle.lb_turn.proofs.Crossing.{seat_send, turn_sync}
use Rattle.lb_turn.specs.contracts.seat.Seat as seat
use Rattle.lb_turn.specs.contracts.turn.Turn as turn
use Rattle.lb_trace.specs.contracts.Entry as entry
use Rattle.lb_trace.specs.contracts.frame.Frame as frame
use Rattle.lb_rv.specs.contracts.instr.Cause as cause
use Rattle.lb_rv.specs.contracts.instr.Instr as instruction
use Rattle.lb_outcome.specs.contracts.ram.Ram as ram
use Rattle.lb_outcome.specs.contracts.registers.Registers as registers
use Rattle.lb_outcome.specs.contracts.types.Outcome as outcome
use Rattle.lb_core.specs.contracts.pipeline.Core as core
use Rattle.lb_lan.specs.contracts.lan.Lan as lan
use Rattle.lb_board.specs.contracts.board.Board as board
use Rattle.lb_machine.specs.contracts.system.System as system
use Rattle.lb_machine.specs.contracts.machine.Machine as machine
use Rattle.lb_machine.specs.contracts.job.FixedJob as fixed
use Rattle.lb_machine.specs.contracts.fault.NotFired as reason
use Rattle.lb_machine.specs.contracts.machine.MachineActs.TheImpl as acts

entry_send : IsSend entry.the_row
entry_send = search (sendable, crosses) depth 30

frame_send : IsSend frame.the_row
frame_send = search (sendable, crosses) depth 20

cause_send : IsSend cause.the_row
cause_send = search (sendable, crosses) depth 60

ram_send : IsSend ram.the_row
ram_send = search (sendable, crosses) depth 20

registers_send : IsSend registers.the_row
registers_send = search (sendable, crosses) depth 20

u8_send : IsSend (UInt w8)
u8_send = search sendable

u32_send : IsSend (UInt w32)
u32_send = search sendable

i32_send : IsSend (SInt w32)
i32_send = search sendable

bool_send : IsSend Boolean
bool_send = search sendable

option_field_send : IsSend (option.the_field u32).row
option_field_send = search sendable depth 20

cause_field_send : IsSend (cause.the_field).row
cause_field_send = search sendable depth 60

instruction_field_send : IsSend (instruction.the_field).row
instruction_field_send = search (tt, enum_send, u8_send, u32_send, i32_send) depth 400 fits 20000

instruction_send : IsSend instruction.the_row
instruction_send = search (tt, recorded_send, enum_send, u8_send, u32_send, i32_send) depth 400 fits 20000

outcome_send : IsSend outcome.the_row
outcome_send =
    recorded_send (Enum (shape outcome.the_type)) _ _ (outcome.the_type).to_one
    (enum_send (shape outcome.the_type) (
      (u8_send, (u32_send, tt)),
      (
        (instruction_field_send, (u32_send, (bool_send, (option_field_send, tt)))),
        ((instruction_field_send, (u32_send, (u32_send, (bool_send, (bool_send, tt))))), ((cause_field_send, tt), tt)),
      ),
    ))

core_send : IsSend core.the_row
core_send = search (sendable, crosses, ram_send, registers_send, outcome_send, instruction_send, cause_send) depth 60 fits 50000

lan_send : IsSend lan.the_row
lan_send = search (sendable, crosses) depth 60 fits 50000

board_send : IsSend board.the_row
board_send = search (sendable, crosses, frame_send, lan_send) depth 20

system_send : IsSend system.the_row
system_send = search (sendable, crosses, core_send, board_send) depth 20

machine_send : IsSend machine.the_row
machine_send = search (sendable, crosses, system_send, entry_send) depth 30

reason_send : IsSend reason.the_row
reason_send = search (sendable, crosses) depth 20

pub machine_seat_send : IsSend (seat.the_row machine.the_row fixed.the_row reason.the_row acts.ghosts)
machine_seat_send = seat_send machine.the_row fixed.the_row reason.the_row acts.ghosts machine_send reason_send

pub machine_turn_sync : IsSync (turn.the_row machine.the_row fixed.the_row reason.the_row acts.ghosts)
machine_turn_sync = turn_sync machine.the_row fixed.the_row reason.the_row acts.ghosts machine_send reason_send
