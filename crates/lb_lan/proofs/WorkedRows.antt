-- Worked examples of what the chip does.
use Rattle.std.proofs.Common.{◌≡◌, ℕ, true, false, List, [], ◌∷◌, refl}
use Rattle.lb_trace.specs.Frame.{FrameContent}
use Rattle.lb_lan.specs.Frames.{woken, arrived, status_of, words_of, has_room}
use Rattle.lb_lan.specs.Transaction.{LanState, new_lan, exchanged, answer_to, released, with_chip}

-- the chip after the bytes of one transaction, and the answers to them
abbrev after_bytes : List ℕ → LanState → LanState
after_bytes [] s = released s
after_bytes (b ∷ bs) s = after_bytes bs (exchanged b s)

abbrev answers_to : List ℕ → LanState → List ℕ
answers_to [] s = []
answers_to (b ∷ bs) s = answer_to b s ∷ answers_to bs (exchanged b s)

abbrev awake_lan : LanState
awake_lan = with_chip (woken new_lan.chip) new_lan

-- BYTE_TEST, awake and not; nine bytes
byte_test : answers_to (0x0B ∷ 0 ∷ 0x64 ∷ 0 ∷ 1 ∷ 2 ∷ 3 ∷ 4 ∷ 5 ∷ []) awake_lan ≡ 0xFF ∷ 0xFF ∷ 0xFF ∷ 0xFF ∷ 0x21 ∷ 0x43 ∷ 0x65 ∷ 0x87 ∷ 0xFF ∷ []
byte_test = refl

byte_test_asleep : answers_to (0x0B ∷ 0 ∷ 0x64 ∷ 0 ∷ 1 ∷ 2 ∷ 3 ∷ 4 ∷ 5 ∷ []) new_lan ≡ 0xFF ∷ 0xFF ∷ 0xFF ∷ 0xFF ∷ 0 ∷ 0 ∷ 0 ∷ 0 ∷ 0xFF ∷ []
byte_test_asleep = refl

-- an instruction that is none
ignored : answers_to (0x03 ∷ 0 ∷ 0x64 ∷ 0 ∷ 1 ∷ 2 ∷ []) awake_lan ≡ 0xFF ∷ 0xFF ∷ 0xFF ∷ 0xFF ∷ 0xFF ∷ 0xFF ∷ []
ignored = refl

-- a write of four bytes is kept, one of three does nothing
abbrev written : LanState
written = after_bytes (0x02 ∷ 0 ∷ 0x74 ∷ 0x78 ∷ 0x56 ∷ 0x34 ∷ 0x12 ∷ []) awake_lan

written_whole : written.chip.hw_cfg ≡ 0x12345678
written_whole = refl

written_in_part : after_bytes (0x02 ∷ 0 ∷ 0x74 ∷ 0x78 ∷ 0x56 ∷ 0x34 ∷ []) awake_lan ≡ awake_lan
written_in_part = refl

-- a frame of five bytes that is marked as faulty
abbrev frame : FrameContent
frame = record { bytes = 1 ∷ 2 ∷ 3 ∷ 4 ∷ 5 ∷ []; error = true }

frame_status : status_of frame ≡ 0x00058000
frame_status = refl

frame_words : words_of frame.bytes ≡ 0x04030201 ∷ 0x00000005 ∷ []
frame_words = refl

-- reception is switched on over the bus, then the frame arrives: a status and eight bytes wait
abbrev data_written : LanState
data_written = after_bytes (0x02 ∷ 0 ∷ 0xA8 ∷ 0x0C ∷ 0 ∷ 0 ∷ 0 ∷ []) awake_lan

abbrev receiving : LanState
receiving = after_bytes (0x02 ∷ 0 ∷ 0xA4 ∷ 0x01 ∷ 0 ∷ 0 ∷ 0x80 ∷ []) data_written

no_reception : has_room frame data_written.chip ≡ false
no_reception = refl

reception : has_room frame receiving.chip ≡ true
reception = refl

abbrev waiting : LanState
waiting = with_chip (arrived frame receiving.chip) receiving

queue_told : answers_to (0x0B ∷ 0 ∷ 0x7C ∷ 0 ∷ 0 ∷ 0 ∷ 0 ∷ 0 ∷ []) waiting ≡ 0xFF ∷ 0xFF ∷ 0xFF ∷ 0xFF ∷ 8 ∷ 0 ∷ 1 ∷ 0 ∷ []
queue_told = refl

status_read : answers_to (0x0B ∷ 0 ∷ 0x40 ∷ 0 ∷ 0 ∷ 0 ∷ 0 ∷ 0 ∷ []) waiting ≡ 0xFF ∷ 0xFF ∷ 0xFF ∷ 0xFF ∷ 0 ∷ 0x80 ∷ 5 ∷ 0 ∷ []
status_read = refl

-- the status is gone, also where the read was cut off behind its fifth byte, and not before
abbrev statuses_after : List ℕ → List ℕ
statuses_after bytes = (after_bytes bytes waiting).chip.statuses

cut_behind_the_fifth : statuses_after (0x0B ∷ 0 ∷ 0x40 ∷ 0 ∷ 0 ∷ []) ≡ []
cut_behind_the_fifth = refl

cut_before_the_fifth : statuses_after (0x0B ∷ 0 ∷ 0x40 ∷ 0 ∷ []) ≡ 0x00058000 ∷ []
cut_before_the_fifth = refl

-- MAC control is written by a command with bit 31 set, bit 30 clear and bits 7 to 0 at 1, and by no other
abbrev control_after : ℕ → ℕ → ℕ
control_after low high = (after_bytes (0x02 ∷ 0 ∷ 0xA4 ∷ low ∷ 0 ∷ 0 ∷ high ∷ []) data_written).chip.mac_control

command_writes : control_after 1 0x80 ≡ 12
command_writes = refl

command_reads : control_after 1 0xC0 ≡ 0
command_reads = refl

command_not_begun : control_after 1 0x00 ≡ 0
command_not_begun = refl

command_elsewhere : control_after 2 0x80 ≡ 0
command_elsewhere = refl

-- bit 31 of the command reads 1 once
command_read : answers_to (0x0B ∷ 0 ∷ 0xA4 ∷ 0 ∷ 0 ∷ 0 ∷ 0 ∷ 0 ∷ []) receiving ≡ 0xFF ∷ 0xFF ∷ 0xFF ∷ 0xFF ∷ 1 ∷ 0 ∷ 0 ∷ 0x80 ∷ []
command_read = refl

command_read_again :
    answers_to (0x0B ∷ 0 ∷ 0xA4 ∷ 0 ∷ 0 ∷ 0 ∷ 0 ∷ 0 ∷ []) (after_bytes (0x0B ∷ 0 ∷ 0xA4 ∷ 0 ∷ 0 ∷ []) receiving)
    ≡ 0xFF ∷ 0xFF ∷ 0xFF ∷ 0xFF ∷ 1 ∷ 0 ∷ 0 ∷ 0 ∷ []
command_read_again = refl
